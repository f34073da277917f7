pub mod Accept
pub mod Answer
pub mod Picture
