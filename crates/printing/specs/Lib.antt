pub mod Key
pub mod Inner
