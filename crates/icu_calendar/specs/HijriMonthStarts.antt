-- The month starts of Hijri years, for a caller's own rules of `hijri`.
pub use Rattle.cal_hijri.specs.MonthStarts.{start_at, days_between, HaveMonthLengths, AreMonthStarts, HasLengthsOf}
