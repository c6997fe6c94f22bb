pub mod Formula
pub mod Word
pub mod InnerWords
pub mod InnerAbove
pub mod InnerReplacing
