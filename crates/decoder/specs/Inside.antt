pub mod Decoder
pub mod Mask
