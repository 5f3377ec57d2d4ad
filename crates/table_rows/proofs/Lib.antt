pub mod GatheringLemmas
pub mod InputLemmas
pub mod ReadingLemmas
pub mod RowMemoryLemmas
pub mod RowLineLemmas
mod NamedRowLemmas
mod RowTakingLemmas
pub mod RowUniqueLemmas
mod RowYearLemmas
pub mod TableLemmas
mod TableOrderLemmas
