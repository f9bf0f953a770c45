pub mod ReadLaws
pub mod StartLaws
