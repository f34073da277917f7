pub mod Cutting
pub mod Finding
pub mod Keeping
pub mod Marks
pub mod Paper
pub mod Spans
pub mod Splitting
pub mod Steps
