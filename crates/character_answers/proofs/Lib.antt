pub mod Encoding
pub mod Laws
pub mod Told
