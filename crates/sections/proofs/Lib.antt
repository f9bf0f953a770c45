pub mod RunLaws
pub mod LocatedLaws
pub mod AnswerLaws
