pub mod Laws
pub mod Link
pub mod Receiving
pub mod Summary
