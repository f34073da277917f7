pub mod Laws
pub mod Left
pub mod Limits
pub mod Lines
pub mod Listings
pub mod Stepping
