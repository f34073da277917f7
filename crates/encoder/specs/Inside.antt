pub mod Character
pub mod Filling
pub mod Tables
