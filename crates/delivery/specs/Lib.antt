pub mod Delivery
pub mod Inside
pub mod Kept
pub mod Marked
pub mod Paper
