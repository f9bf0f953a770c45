pub mod Changed
pub mod Planned
pub mod Parts
