pub mod Bytes
pub mod Laws
pub mod Paper
pub mod Sample
