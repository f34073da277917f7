pub mod Laws
pub mod Spans
