pub mod InnerBuilding
