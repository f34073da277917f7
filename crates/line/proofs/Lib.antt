pub mod Laws
pub mod Lines
pub mod Paper
pub mod Travel
