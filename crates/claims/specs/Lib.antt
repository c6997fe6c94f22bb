pub mod Request8
pub mod Request9
pub mod Request10
