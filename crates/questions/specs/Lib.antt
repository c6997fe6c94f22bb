pub mod Questions
pub mod Answer
pub mod Listing
pub mod InnerCounts
