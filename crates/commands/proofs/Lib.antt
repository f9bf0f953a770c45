pub mod CommandLaws
pub mod CodeLaws
pub mod IterLaws
pub mod CountLaws
