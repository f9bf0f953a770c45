pub mod Commands
pub mod Fields
