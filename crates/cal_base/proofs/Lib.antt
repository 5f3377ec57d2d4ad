pub mod OffsetYears
pub mod OffsetAnswers
pub mod OwnAnswers
pub mod CountedDayLemmas
