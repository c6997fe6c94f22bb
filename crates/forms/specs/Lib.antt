pub mod InnerForms
