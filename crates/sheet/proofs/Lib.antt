-- The laws of the definitions in specs/, for this crate and those above it.
mod EntriesLaws
pub mod FormLaws
pub mod LineAtLaws
pub mod SoundLaws
mod HoldLaws
mod LoopLaws
pub mod AcceptedLaws
pub mod RulesLaws
pub mod LiftLineLaws
pub mod TypedLaws
pub mod WithoutLaws
