-- Books of holidays, the rules of their records, and the days that these name.
pub use Rattle.cal_holidays.specs.Books.{named_rules, book_records, IsBookFault, IsFirstBad}
pub use Rattle.cal_holidays.specs.Observing.{IsKept, are_proper_moves, are_proper_years, move_on}
pub use Rattle.cal_holidays.specs.Records.{record_read}
pub use Rattle.cal_holidays.specs.Rules.{DayRule, Kept, NamedRule, Observed, Repeated, Rule, is_proper, recurrence_of, rule_calendar, rule_said, yearly_of}
pub use Rattle.cal_holidays.specs.Naming.{names_day, is_easter, is_nth, recurs_on}
pub use Rattle.cal_holidays.specs.BookNames.{names_in_book, holidays_in}
pub use Rattle.cal_holidays.specs.RecurrencesTold.{recurrence_told}
pub use Rattle.cal_holidays.specs.RepeatedDays.{RepeatsOn}
pub use Rattle.cal_holidays.specs.NamedDays.{AreHolidays, IsEasterOf, IsNthWeekday, IsSpanDay, MovesTo, Names, NamesInBook, OwnDay}
