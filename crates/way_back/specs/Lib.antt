pub mod Back
pub mod Inside
pub mod Laws
pub mod Paper
pub mod Undone
