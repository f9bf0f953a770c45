pub mod Promises
pub mod Turns
pub mod Handed
pub mod HandedHeader
