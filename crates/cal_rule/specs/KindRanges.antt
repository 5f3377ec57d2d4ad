-- The numbers and months that rules may name in a kind of calendar: those that some year of it can have, whatever its
-- tables are.
use Rattle.std.specs.Prelude.{ℕ, ◌==◌, ◌&&◌, nat_le, Bool, if◌then◌else◌}
use Rattle.cal_kinds.specs.declared.any_calendar_kind.AnyCalendarKind.{AnyCalendarKind}
use Rattle.cal_kinds.specs.declared.any_calendar_kind.AnyCalendarKind.TheVariants as kind
use Rattle.cal_types.specs.Month.{MonthParts}
use Rattle.cal_types.specs.PlainMonths.{is_plain_month}
use Rattle.cal_rule.specs.declared.kind_ranges.Ranges.{Ranges}

-- the days of the longest month, the days of the longest year, and its weeks, of which each has four days in it
abbrev pub greatest : ℕ → ℕ → ℕ → Ranges
greatest month_days year_days weeks = record { month_day = month_days; year_day = year_days; week = weeks }

abbrev pub ranges_of : AnyCalendarKind → Ranges
ranges_of kind.Buddhist = greatest 31 366 53
ranges_of kind.Chinese = greatest 30 385 55
ranges_of kind.Coptic = greatest 30 366 53
ranges_of kind.Dangi = greatest 30 385 55
ranges_of kind.Ethiopian = greatest 30 366 53
ranges_of kind.EthiopianAmeteAlem = greatest 30 366 53
ranges_of kind.Gregorian = greatest 31 366 53
ranges_of kind.Hebrew = greatest 30 385 55
ranges_of kind.Indian = greatest 31 366 53
ranges_of kind.HijriTabularTypeIIFriday = greatest 30 355 51
ranges_of kind.HijriSimulatedMecca = greatest 30 355 51
ranges_of kind.HijriTabularTypeIIThursday = greatest 30 355 51
ranges_of kind.HijriUmmAlQura = greatest 30 355 51
ranges_of kind.Iso = greatest 31 366 53
ranges_of kind.Japanese = greatest 31 366 53
ranges_of kind.JapaneseExtended = greatest 31 366 53
ranges_of kind.Julian = greatest 31 366 53
ranges_of kind.Persian = greatest 31 366 53
ranges_of kind.Roc = greatest 31 366 53
ranges_of kind.HijriTabularTypeIFriday = greatest 30 355 51
ranges_of kind.HijriTabularTypeIThursday = greatest 30 355 51

-- the plain months 1 to 12, and the fifth as a leap month
abbrev pub is_hebrew_month : MonthParts → Bool
is_hebrew_month m = if m.is_leap then m.number == 5 else (nat_le 1 m.number && nat_le m.number 12)

-- the months 1 to 12, each also as a leap month
abbrev pub is_lunisolar_month : MonthParts → Bool
is_lunisolar_month m = nat_le 1 m.number && nat_le m.number 12

abbrev pub knows_month : AnyCalendarKind → MonthParts → Bool
knows_month kind.Buddhist = is_plain_month 12
knows_month kind.Chinese = is_lunisolar_month
knows_month kind.Coptic = is_plain_month 13
knows_month kind.Dangi = is_lunisolar_month
knows_month kind.Ethiopian = is_plain_month 13
knows_month kind.EthiopianAmeteAlem = is_plain_month 13
knows_month kind.Gregorian = is_plain_month 12
knows_month kind.Hebrew = is_hebrew_month
knows_month kind.Indian = is_plain_month 12
knows_month kind.HijriTabularTypeIIFriday = is_plain_month 12
knows_month kind.HijriSimulatedMecca = is_plain_month 12
knows_month kind.HijriTabularTypeIIThursday = is_plain_month 12
knows_month kind.HijriUmmAlQura = is_plain_month 12
knows_month kind.Iso = is_plain_month 12
knows_month kind.Japanese = is_plain_month 12
knows_month kind.JapaneseExtended = is_plain_month 12
knows_month kind.Julian = is_plain_month 12
knows_month kind.Persian = is_plain_month 12
knows_month kind.Roc = is_plain_month 12
knows_month kind.HijriTabularTypeIFriday = is_plain_month 12
knows_month kind.HijriTabularTypeIThursday = is_plain_month 12
