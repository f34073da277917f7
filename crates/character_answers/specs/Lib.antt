pub mod Characters
pub mod Laws
