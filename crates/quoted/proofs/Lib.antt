pub mod SizeLaws
pub mod WaitLaws
pub mod WalkLaws
