-- The laws of the definitions in specs/, for this crate and those above it.
pub mod LiftLaws
pub mod LevelLaws
pub mod RunLaws
pub mod WholeLaws
pub mod SchoolLaws
