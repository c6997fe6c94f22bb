pub mod InnerSplits
