pub mod Gathering
pub mod Inner
pub mod Answer
pub mod InnerGathered
