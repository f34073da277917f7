pub mod Columns
pub mod Encoded
pub mod Fill
pub mod Given
pub mod Window
