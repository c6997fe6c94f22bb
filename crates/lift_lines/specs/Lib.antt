pub mod Lifting
pub mod Inner
