pub mod Laws
pub mod Numbers
pub mod Putting
pub mod Stores
pub mod WordsRead
