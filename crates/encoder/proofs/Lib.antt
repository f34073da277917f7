pub mod Blocks
pub mod Entries
pub mod Filled
pub mod Laws
