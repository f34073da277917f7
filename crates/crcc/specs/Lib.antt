pub mod Crcc
pub mod Inside
pub mod Laws
pub mod Paper
