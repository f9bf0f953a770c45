pub mod Places
pub mod RoundAlike
pub mod Viable
pub mod WrittenMarks
pub mod Lexical
pub mod Damage
pub mod Outputs
pub mod Accepted
