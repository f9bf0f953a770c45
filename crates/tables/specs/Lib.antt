pub mod Arrays
pub mod Flat
pub mod Keys
pub mod Rows
