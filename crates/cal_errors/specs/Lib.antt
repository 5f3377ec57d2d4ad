pub mod Errors
pub mod RangeParts
pub mod Algorithm
