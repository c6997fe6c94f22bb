pub mod Theorems
pub mod Request8Laws
pub mod Request9Laws
pub mod Request10Laws
