pub mod FoundLaws
pub mod RunLaws
