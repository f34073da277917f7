pub mod Laws
pub mod Putting
pub mod TestPicture
