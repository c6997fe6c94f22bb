pub mod InnerChoosing
pub mod InnerJoining
pub mod Inner
