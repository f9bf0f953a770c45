pub mod Judging
pub mod Walked
