pub mod YearList
pub mod ListedYears
