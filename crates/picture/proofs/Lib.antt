pub mod Choices
pub mod Laws
pub mod OneToOne
pub mod Paper
pub mod Places
pub mod Steps
