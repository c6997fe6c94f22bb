pub mod InnerKnown
pub mod InnerStands
