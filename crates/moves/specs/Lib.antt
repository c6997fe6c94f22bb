pub mod Moves
pub mod LeftSides
pub mod NextState
pub mod InnerEntries
