pub mod Face
pub mod Repaired
pub mod Telling
