pub mod Marking
pub mod Text
pub mod Inner
