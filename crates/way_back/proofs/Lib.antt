pub mod Backs
pub mod Laws
pub mod Paper
pub mod Undone
