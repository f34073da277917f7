pub mod Code
pub mod Disparity
