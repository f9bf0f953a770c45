pub mod FrontLaws
pub mod WalkLaws
pub mod ReachLaws
pub mod CountLaws
