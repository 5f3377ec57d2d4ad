pub mod ListLemmas
pub mod HolidayLemmas
pub mod TextLemmas
pub mod DayTextLemmas
pub mod RuleLemmas
