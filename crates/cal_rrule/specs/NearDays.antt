-- Days near the valid days, and what a calendar says of them.
use Rattle.std.specs.Prelude.{◌≤◌, IsTrue, unsigned_abs, ℤ, pos, neg_ℤ, ◌-ℤ◌}
use Rattle.cal_days.specs.Day.{IsBetween, IsFieldYear}
use Rattle.cal_types.specs.CalendarList.{CalendarList, Date, IsOn, IsValidDate, month_number}
use Rattle.cal_types.specs.Month.{MonthParts}

-- a day is valid, or at most 10000 days before or behind the valid days
abbrev pub IsNearDay : ℤ → Type 0
IsNearDay n = IsBetween (neg_ℤ (pos 365252499)) (pos 365252134) n

-- fields can name the years of such days and of the years beside them, the calendar's months have numbers up to 13,
-- and valid dates lie at most 27040000 months apart
pub record IsNearList (c : CalendarList) : Type 0 where
  pub years : (n : ℤ) (t : Date) → IsBetween (neg_ℤ (pos 365253000)) (pos 365253000) n → IsOn c n t →
      IsFieldYear t.year
  pub months : (m : MonthParts) → IsTrue (c.is_of_kind m) → m.number ≤ 13
  pub apart : (t u : Date) → IsValidDate c t → IsValidDate c u →
      unsigned_abs (month_number c u.year u.month -ℤ month_number c t.year t.month) ≤ 27040000
