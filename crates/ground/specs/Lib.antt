pub mod Answer
pub mod Bit
pub mod Inside
pub mod Laws
pub mod Range
pub mod Search
pub mod Written
pub mod Xor
