-- How many of a unit lead near a day.
use Rattle.std.specs.Prelude.{◌≡◌, ℕ, ◌<◌, Some, ℤ, ◌<ℤ◌}
use Rattle.cal_types.specs.declared.options.Overflow.TheVariants.{Constrain}
use Rattle.cal_types.specs.declared.duration.DateDurationUnit.{DateDurationUnit}
use Rattle.cal_types.specs.CalendarList.{Date}
use Rattle.cal_types.specs.CalendarSystem.{CalendarSystem}
use Rattle.cal_recur.specs.Occurrence.{occurrence}

-- fewer of a unit than m, added to a start, lead before a day, and more of it lead after it
pub record IsNear (s : CalendarSystem) (t : Date) (unit : DateDurationUnit) (day : ℤ) (m : ℕ) : Type 0 where
  pub fewer : (k : ℕ) → k < m → (n : ℤ) → occurrence s.list s.year_shift t unit Constrain k ≡ Some n → n <ℤ day
  pub more : (k : ℕ) → m < k → (n : ℤ) → occurrence s.list s.year_shift t unit Constrain k ≡ Some n → day <ℤ n
