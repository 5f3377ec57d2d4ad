pub mod Gathering
pub mod Laws
pub mod Reading
pub mod RowLines
pub mod RowYears
pub mod RowsSaid
pub mod TableRows
pub mod TableWords
