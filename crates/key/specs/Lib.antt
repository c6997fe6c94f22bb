pub mod Devices
pub mod Demand
pub mod Call
pub mod Alike
pub mod Samples
pub mod InnerKeyOf
pub mod Inner
