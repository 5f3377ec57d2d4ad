pub mod YearLengths
pub mod SameYears
pub mod HebrewMonths
pub mod HebrewLaws
pub mod HebrewSystemLaws
