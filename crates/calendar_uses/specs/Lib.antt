pub mod Almanac
pub mod Forms
pub mod Recurrence
pub mod Feasts
pub mod ComingDays
