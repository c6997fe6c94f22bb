-- The laws of the definitions in specs/, for this crate and those above it.
pub mod StepLaws
pub mod NextStateLaws
pub mod UnderLaws
pub mod PlanLaws
pub mod StepAnswerLaws
