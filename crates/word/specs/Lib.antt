pub mod Laws
pub mod LineNumber
pub mod Paper
pub mod Received
pub mod Repair
pub mod Timing
pub mod Values
pub mod Word
