pub mod Laws
pub mod Number
pub mod Put
pub mod Words
