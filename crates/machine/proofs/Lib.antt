pub mod CarryLaws
pub mod SoundLaws
