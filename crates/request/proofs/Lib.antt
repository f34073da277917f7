pub mod Checking
pub mod GoodCalls
pub mod Laws
pub mod OneToOne
pub mod Refusals
