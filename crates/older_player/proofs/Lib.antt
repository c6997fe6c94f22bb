-- The laws of the definitions in specs/, for the crates above.
pub mod InstructionLaws
pub mod PlayingLaws
pub mod CodeLaws
