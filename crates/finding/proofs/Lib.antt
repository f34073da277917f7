pub mod OnePlace
pub mod Seeking
