pub mod Frame
pub mod Inside
pub mod Knock
pub mod Laws
pub mod Piece
pub mod Sending
