pub mod Answer
pub mod Exactly
pub mod Fours
