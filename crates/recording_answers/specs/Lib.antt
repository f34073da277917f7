pub mod Laws
pub mod Recordings
