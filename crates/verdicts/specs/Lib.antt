pub mod Headers
pub mod Trailers
pub mod First
pub mod Files
