-- Laws about lists of numbers, for every crate.
pub mod ListLaws
