pub mod Given
pub mod Dates
pub mod Directions
pub mod Counting
pub mod Places
pub mod Ticks
pub mod FieldNames
