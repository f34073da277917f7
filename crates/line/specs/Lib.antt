pub mod Laws
pub mod Paper
pub mod Picture
pub mod Stream
