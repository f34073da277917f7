pub mod Cases
pub mod Laws
pub mod Told
