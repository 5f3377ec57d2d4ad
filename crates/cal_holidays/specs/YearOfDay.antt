-- The year of a day.
use Rattle.std.specs.Prelude.{◌≡◌, ℤ}
use Rattle.cal_types.specs.CalendarList.{CalendarList, Date, IsOn}

-- a day lies in a year of a calendar
abbrev pub IsInYear : CalendarList → ℤ → ℤ → Type 0
IsInYear c y n = (t : Date) × IsOn c n t × (t.year ≡ y)
