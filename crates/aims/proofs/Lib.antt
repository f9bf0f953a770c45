pub mod AimLaws
mod LostLaws
