pub mod PassLaws
pub mod StandLaws
pub mod TextLaws
