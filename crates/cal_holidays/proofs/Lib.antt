mod EasterLemmas
mod FieldLemmas
mod FirstLemmas
mod KeptLemmas
mod KindMonthLemmas
mod ListLemmas
mod MonthLemmas
mod MoveLemmas
mod MovingLemmas
pub mod NamedDaysLemmas
mod NthLemmas
mod ObservingLemmas
mod NumberLemmas
mod ObservedLemmas
mod OwnDayLemmas
mod PairLemmas
pub mod RecordLemmas
mod RepeatedLemmas
mod SplitLemmas
mod StartLemmas
pub mod YieldLemmas
