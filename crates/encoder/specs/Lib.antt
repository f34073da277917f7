pub mod Encode
pub mod Inside
pub mod Laws
