pub mod AlternatingMonths
pub mod AlternatingYears
pub mod laws
