-- The bounds of a list whose years other calendars count from a year of their own.
use Rattle.std.specs.Prelude.{◌≤◌, unsigned_abs, ℤ, pos, neg_ℤ, ◌-ℤ◌}
use Rattle.cal_days.specs.Day.{IsBetween, IsShiftedYear, IsValidDay}
use Rattle.cal_types.specs.CalendarList.{CalendarList, Date, day_number, month_number, IsDate, IsValidDate}

-- how far the years of such a calendar may lie from those that it counts
abbrev pub IsShift : ℤ → Type 0
IsShift shift = IsBetween (neg_ℤ (pos 9999)) (pos 9999) shift

-- the bounds that the calendar's own ones follow from: its days and months lie where they are asked to,
-- also for the years a shift beside
pub record IsBounded (c : CalendarList) : Type 0 where
  pub near : (t : Date) → IsShiftedYear t.year → IsDate c t
      → IsBetween (neg_ℤ (pos 4000000000)) (pos 4000000000) (day_number c t)
  pub ranged : (t : Date) → IsValidDate c t → IsBetween (neg_ℤ (pos 1030000)) (pos 1030000) t.year
  pub apart : (t u : Date) → IsValidDate c t → IsValidDate c u
      → unsigned_abs (month_number c u.year u.month -ℤ month_number c t.year t.month) ≤ 27040000
  pub covered : (t : Date) → IsBetween (neg_ℤ (pos 989999)) (pos 989999) t.year → IsDate c t
      → IsValidDay (day_number c t)
