pub mod Asking
pub mod Clamped
