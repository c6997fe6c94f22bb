-- The laws of the definitions in specs/, for this crate and those above it.
pub mod TreeLaws
pub mod GroupLaws
pub mod CollectLaws
pub mod ContextLaws
pub mod PassLaws
pub mod ParseLaws
pub mod PartLaws
pub mod ScanLaws
pub mod WritingLaws
