pub mod PackLaws
pub mod GatherLaws
pub mod SameLaws
pub mod SoundLaws
pub mod WordLaws
pub mod StoreLaws
pub mod OrderLaws
pub mod DeriveLaws
