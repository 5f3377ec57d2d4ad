mod IndianMonthLemmas
mod PersianDayLemmas
pub mod CorrectionLemmas
mod SearchLemmas
