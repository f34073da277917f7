pub mod Ending
pub mod Marked
