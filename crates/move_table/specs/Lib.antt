pub mod Loading
pub mod Packing
pub mod InnerLoading
