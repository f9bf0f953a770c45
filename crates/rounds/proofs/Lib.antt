pub mod NumberLaws
pub mod RoundLaws
