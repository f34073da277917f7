pub mod Example
pub mod Laws
pub mod Limits
pub mod Lines
pub mod Pieces
