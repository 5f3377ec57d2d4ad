-- The first days of the twelve months of a year and of the next year's first month.
use Rattle.std.specs.Prelude.{◌≡◌, ℕ, ◌+◌, ◌-◌, ◌≤◌, List, slice_index_or, ℤ, pos, ◌-ℤ◌}
use Rattle.cal_days.specs.Day.{IsBetween, IsRuleYear}
use Rattle.cal_hijri.specs.HijriMonths.{IsNearMean, month_days}

abbrev pub start_at : List ℤ → ℕ → ℤ
start_at starts i = slice_index_or starts i (pos 0)

-- how many days the month in a place has
abbrev pub days_between : List ℤ → ℕ → ℤ
days_between starts i = start_at starts i -ℤ start_at starts (i - 1)

-- each month from one place on has 29 or 30 days
abbrev pub HaveMonthLengths : List ℤ → ℕ → Type 0
HaveMonthLengths starts after = (i : ℕ) → after + 1 ≤ i → i ≤ 12 → IsBetween (pos 29) (pos 30) (days_between starts i)

-- they are those of a year of this number
pub record AreMonthStarts (y : ℤ) (starts : List ℤ) : Type 0 where
  pub year : IsRuleYear y
  pub near : IsNearMean y (start_at starts 0)
  pub months : HaveMonthLengths starts 0

-- the months of a year have the days that lie between the starts
abbrev pub HasLengthsOf : List ℤ → ℕ → Type 0
HasLengthsOf starts long = (i : ℕ) → 1 ≤ i → i ≤ 12 → pos (month_days long i) ≡ days_between starts i
