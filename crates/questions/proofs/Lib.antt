-- The laws of the definitions in specs/, for this crate and those above it.
pub mod ListLaws
pub mod OrderLaws
pub mod TreeLaws
pub mod IndexLaws
pub mod WordLaws
pub mod CountLaws
pub mod TurnLaws
pub mod AnswerLaws
pub mod Theorems
