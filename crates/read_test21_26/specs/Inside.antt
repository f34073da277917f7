pub mod Call
pub mod Holds
pub mod Line
pub mod Picture
pub mod Repairs
pub mod Verdict
