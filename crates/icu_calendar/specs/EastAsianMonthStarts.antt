-- The month starts of Chinese and Korean years, for a caller's own rules of `east_asian`.
pub use Rattle.cal_east_asian.specs.MonthStarts.{start_at, days_between, HaveMonthLengths, HaveLengthsOf, leap_place_read, leap_place_shown, AreMonthStarts, AreYearStarts}
