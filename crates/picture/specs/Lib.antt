pub mod Choice
pub mod Division
pub mod Laws
pub mod Paper
pub mod Place
