pub mod InnerNotes
