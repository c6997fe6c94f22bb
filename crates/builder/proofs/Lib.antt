-- The laws of the definitions in specs/, for this crate and those above it.
pub mod JoinLaws
pub mod FormLaws
pub mod WritingLaws
pub mod RowLaws
pub mod TakenLaws
pub mod ReadyLaws
pub mod SizeLaws
pub mod BuildLaws
mod TurnLaws
