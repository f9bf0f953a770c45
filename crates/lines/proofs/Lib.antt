pub mod CursorLaws
pub mod RunLaws
pub mod IterLaws
