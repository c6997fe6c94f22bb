-- The laws of the definitions in specs/, for this crate and those above it.
pub mod WriterLaws
pub mod CodingLaws
