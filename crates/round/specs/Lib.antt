pub mod Local
pub mod Round
pub mod RoundKeys
