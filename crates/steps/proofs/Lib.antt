pub mod PlaceLaws
pub mod StepLaws
pub mod StartLaws
