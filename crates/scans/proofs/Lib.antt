pub mod ScanLaws
pub mod TopLaws
