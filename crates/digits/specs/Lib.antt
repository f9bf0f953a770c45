pub mod Magnitudes
pub mod Runs
