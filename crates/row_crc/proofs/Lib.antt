pub mod Folding
pub mod Moving
pub mod Rows
