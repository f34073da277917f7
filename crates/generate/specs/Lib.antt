pub mod Generated
pub mod Inside
pub mod Laws
pub mod Parameters
pub mod Pieces
