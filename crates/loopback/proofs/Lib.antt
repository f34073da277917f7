pub mod Bytes
pub mod Frames
pub mod Inputs
pub mod Laws
pub mod Whole
