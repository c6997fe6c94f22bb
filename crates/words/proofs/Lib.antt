-- The laws of the definitions in specs/, for this crate and those above it.
pub mod Cases
pub mod FormulaLaws
pub mod EntryLaws
pub mod WordLaws
pub mod AboveLaws
pub mod ReplaceLaws
pub mod ReadLaws
