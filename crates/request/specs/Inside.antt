pub mod Check
pub mod Send
