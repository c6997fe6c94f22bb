pub mod Instructions
pub mod Playing
pub mod Codes
