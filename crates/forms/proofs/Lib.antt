-- The laws of the forms.
pub mod TestLaws
pub mod FormLaws
pub mod HolderLaws
