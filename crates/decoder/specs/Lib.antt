pub mod Decode
pub mod Inside
pub mod Laws
pub mod Meaning
pub mod Paper
