pub mod Dates
pub mod DatesSaid
pub mod Reading
