pub mod Inside
pub mod Laws
pub mod Paper
pub mod Row
