pub mod Codes
pub mod Images
pub mod Laws
pub mod OneToOne
pub mod Puttings
pub mod Rows
pub mod Sendings
pub mod Stores
