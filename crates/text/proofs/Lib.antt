-- The laws of the definitions in specs/, for this crate and those above it.
pub mod DecimalLaws
pub mod PartsLaws
pub mod LineLaws
