pub mod Lines
pub mod InnerFields
