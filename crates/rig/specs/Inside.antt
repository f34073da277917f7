pub mod Knock
pub mod Sending
