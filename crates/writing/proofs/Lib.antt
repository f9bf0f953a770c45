pub mod SoundLaws
pub mod HeadLaws
pub mod ModelLaws
pub mod HeaderLaws
pub mod FormLaws
pub mod FillLaws
