pub mod Demands
pub mod Examples
pub mod Form
pub mod Live
pub mod Rules
