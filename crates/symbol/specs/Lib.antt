pub mod Blocks
pub mod Character
pub mod Code
pub mod Disparity
pub mod Equations
pub mod Inside
pub mod Laws
pub mod Paper
