-- The laws of loading, for this crate and those above it.
pub mod LineLaws
pub mod PackingLaws
pub mod LoadLaws
pub mod SchoolLaws
pub mod Theorems
pub mod EnoughLaws
pub mod OwnLaws
