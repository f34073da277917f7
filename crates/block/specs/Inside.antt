pub mod Bits
pub mod Parts
