pub mod File
pub mod Frame
pub mod Input
pub mod Laws
