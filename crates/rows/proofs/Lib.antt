pub mod SectionLaws
pub mod WalkLaws
pub mod AnswerLaws
