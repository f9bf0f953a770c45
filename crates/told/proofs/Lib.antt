pub mod ToldLaws
pub mod PromiseLaws
