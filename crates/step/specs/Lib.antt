pub mod Step
pub mod InnerStanding
pub mod InnerSteps
