pub mod AnyNear
pub mod Comparing
