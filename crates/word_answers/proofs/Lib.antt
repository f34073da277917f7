pub mod Laws
pub mod Repairs
pub mod Told
