pub mod Fit
pub mod Format
pub mod Layout
pub mod Sample
