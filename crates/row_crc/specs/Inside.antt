pub mod Fold
pub mod Sums
