pub mod MagnitudeLaws
pub mod RunLaws
