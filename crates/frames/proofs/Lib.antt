pub mod PlainLaws
pub mod LineLaws
pub mod TitleLaws
