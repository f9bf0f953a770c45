pub mod Seating
pub mod Faults
