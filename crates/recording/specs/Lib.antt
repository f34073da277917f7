pub mod Call
pub mod Inside
pub mod Laws
pub mod Paper
pub mod Recording
pub mod Steps
