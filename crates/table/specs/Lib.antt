pub mod InnerTable
