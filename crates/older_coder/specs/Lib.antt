pub mod Coding
pub mod InnerWriter
