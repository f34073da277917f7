pub mod Fill
pub mod Picture
pub mod Run
pub mod See
pub mod Whole
