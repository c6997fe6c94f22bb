-- The laws of the definitions in specs/, and request 5's theorems on the mark.
mod ForeignLaws
mod MarkLaws
mod ReadLaws
pub mod RowLaws
mod TextLaws
pub mod Theorems
