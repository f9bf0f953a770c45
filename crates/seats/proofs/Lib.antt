pub mod WalkLaws
pub mod SeatLaws
pub mod FiledLaws
pub mod RepeatLaws
