-- The theorems about the code of a tree, for any device in Theorems, for each of the two in NewerLaws and OlderLaws; and the laws of the
-- definitions in specs/, for this crate and those above.
pub mod NeedLaws
pub mod WaitingLaws
pub mod CodeLaws
pub mod RunLaws
pub mod Theorems
pub mod NewerLaws
pub mod OlderLaws
