pub mod InnerHolding
