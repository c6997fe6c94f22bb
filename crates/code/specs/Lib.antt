pub mod Need
pub mod Code
pub mod Waiting
pub mod Devices
pub mod Effects
pub mod Acts
pub mod Runs
pub mod InnerWaiting
