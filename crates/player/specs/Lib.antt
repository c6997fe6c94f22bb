pub mod Limits
pub mod Instructions
pub mod Patches
pub mod Bytes
pub mod Playing
pub mod InnerWords
pub mod InnerForms
pub mod InnerChecks
