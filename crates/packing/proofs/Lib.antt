pub mod Laws
pub mod OneToOne
pub mod Packing
pub mod Paper
pub mod Samples
