pub mod Decimal
pub mod Parts
pub mod Line
pub mod Inner
