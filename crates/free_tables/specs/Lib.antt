pub mod InnerSearch
pub mod InnerTables
