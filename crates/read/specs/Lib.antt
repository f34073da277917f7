pub mod Call
pub mod Inside
pub mod Laws
