pub mod RowFaults
pub mod Stages
pub mod Refusals
