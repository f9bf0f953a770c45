pub mod FormatLaws
pub mod EnteredLaws
pub mod ToldLaws
pub mod TitleLaws
