pub mod Bounds
pub mod Days
pub mod Listing
pub mod Numbers
pub mod Occurrences
pub mod Passing
pub mod PeriodBits
pub mod Periods
