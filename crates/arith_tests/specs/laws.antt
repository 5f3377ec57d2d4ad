pub mod AlternatingMonthLaws
pub mod AlternatingYearLaws
