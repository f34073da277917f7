pub mod Parameters
pub mod Pieces
