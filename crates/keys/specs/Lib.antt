pub mod Numbers
pub mod Orders
