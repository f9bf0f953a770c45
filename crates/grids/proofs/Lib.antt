mod AnswerLaws
mod GridLaws
