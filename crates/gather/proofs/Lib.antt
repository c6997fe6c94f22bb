-- THE THEOREM: Criterion states it and Theorem proves it. The others are the laws of the definitions in specs/, for this crate and
-- those above it.
pub mod Criterion
pub mod Theorem
pub mod GatheringLaws
pub mod HeldLaws
pub mod JoiningLaws
pub mod ChoosingLaws
pub mod HoldingLaws
pub mod GatheredLaws
pub mod AnswerLaws
mod LoopLaws
pub mod WholeLaws
