pub mod Answers
pub mod Entries
pub mod Laws
pub mod Masks
pub mod Paper
pub mod Reading
