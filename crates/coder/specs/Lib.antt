pub mod Coding
pub mod InnerNotes
