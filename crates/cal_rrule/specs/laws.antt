pub mod MonthOrder
pub mod MonthlyApart
