pub mod Calls
pub mod Face
pub mod Refusals
