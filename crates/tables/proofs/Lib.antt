pub mod ArrayLaws
pub mod FlatLaws
pub mod ReferenceLaws
pub mod RowLaws
