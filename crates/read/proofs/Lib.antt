pub mod Accepted
pub mod Laws
pub mod OneToOne
pub mod Picturing
pub mod Summing
pub mod Verdicts
pub mod Windows
