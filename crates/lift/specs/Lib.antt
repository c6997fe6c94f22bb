pub mod Lift
pub mod Answer
pub mod School
pub mod InnerLifts
