pub mod Crc
pub mod Laws
pub mod Linear
pub mod OneToOne
pub mod Paper
