pub mod Laws
pub mod Lengths
pub mod OneToOne
pub mod Paper
pub mod RoundTrip
pub mod Rows
