pub mod FirstLaws
pub mod PartLaws
