pub mod PartLaws
pub mod FieldLaws
pub mod ReadLaws
pub mod StandLaws
pub mod KeptLaws
pub mod PlanLaws
