pub mod Passing
pub mod Putting
pub mod Runs
pub mod Scaling
pub mod Sizes
pub mod TimingCodes
pub mod Whole
