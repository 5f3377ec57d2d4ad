pub mod Asking
pub mod FallingOn
pub mod Found
pub mod Listing
pub mod YearlyDays
