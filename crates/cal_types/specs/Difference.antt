-- The difference of two dates: the greatest duration that does not surpass the second.
-- Source: ECMAScript Temporal's NonISODateUntil and NonISODateSurpasses.
use Rattle.std.specs.Prelude.{◌≡◌, ℕ, ◌+◌, ◌*◌, ◌<◌, min, ◌⊎◌, ◌↔◌, Bool, true, false, IsTrue, Some, ℤ, pos, neg_ℤ, ◌+ℤ◌, ◌<ℤ◌, Option, None}
use Rattle.cal_types.specs.Month.{month_rank}
use Rattle.cal_types.specs.declared.options.Overflow.TheVariants.{Constrain}
use Rattle.cal_types.specs.declared.duration.DateDuration.{DateDuration}
use Rattle.cal_types.specs.declared.duration.DateDurationUnit.{DateDurationUnit}
use Rattle.cal_types.specs.declared.duration.DateDurationUnit.TheVariants.{Years, Months, Weeks, Days}
use Rattle.cal_types.specs.CalendarList.{spot, CalendarList, Date, date, month_at, month_length, day_number, IsMonthsAfter, IsBefore}

-- n units forward, or back
abbrev pub toward : Bool → ℕ → ℤ
toward false n = pos n
toward true n = neg_ℤ (pos n)

-- past the second in the direction of counting
abbrev pub IsBeyond : Bool → ℤ × ℕ × ℕ → ℤ × ℕ × ℕ → Type 0
IsBeyond false a b = IsBefore b a
IsBeyond true a b = IsBefore a b

abbrev pub IsBeyondDay : Bool → ℤ → ℤ → Type 0
IsBeyondDay false n m = m <ℤ n
IsBeyondDay true n m = n <ℤ m

-- k years lead past the second date, by month or by place
abbrev pub YearsSurpass : CalendarList → Date → Date → Bool → ℕ → Type 0
YearsSurpass c t u back k =
    let y = t.year +ℤ toward back k in let m = month_at c t.year t.month in
    IsBeyond back (y, month_rank m, t.day) (u.year, month_rank (month_at c u.year u.month), u.day)
    ⊎ ((i : ℕ) × (spot c y m Constrain ≡ Some i) × IsBeyond back (y, i, t.day) (u.year, u.month, u.day))

-- years and months lead to the month in place j of year z
pub record Reaches (c : CalendarList) (t : Date) (back : Bool) (years months : ℕ) (z : ℤ) (j : ℕ) : Type 0 where
  pub from : ℕ
  pub spot_is : spot c (t.year +ℤ toward back years) (month_at c t.year t.month) Constrain ≡ Some from
  pub moved : IsMonthsAfter c (t.year +ℤ toward back years) from (toward back months) z j

-- k months, after the years, lead past the second date; the day is as it was
abbrev pub MonthsSurpass : CalendarList → Date → Date → Bool → ℕ → ℕ → Type 0
MonthsSurpass c t u back years k =
    (z : ℤ) × (j : ℕ) × Reaches c t back years k z j × IsBeyond back (z, j, t.day) (u.year, u.month, u.day)

-- k days, after the years and months, lead past the second date
abbrev pub DaysSurpass : CalendarList → Date → Date → Bool → ℕ → ℕ → ℕ → Type 0
DaysSurpass c t u back years months k =
    (z : ℤ) × (j : ℕ) × Reaches c t back years months z j
    × IsBeyondDay back (day_number c (date z j (min t.day (month_length c z j))) +ℤ toward back k) (day_number c u)

-- the greatest number that does not pass
pub record IsGreatest (Surpasses : ℕ → Type 0) (k : ℕ) : Type 0 where
  pub within : ¬ Surpasses k
  pub most : (j : ℕ) → k < j → Surpasses j

-- that of an admitted unit, and 0 of another
abbrev pub IsGreatestIf : Bool → (ℕ → Type 0) → ℕ → Type 0
IsGreatestIf true Surpasses k = IsGreatest Surpasses k
IsGreatestIf false Surpasses k = k ≡ 0

abbrev pub admits_years : DateDurationUnit → Bool
admits_years Years = true
admits_years _ = false

abbrev pub admits_months : DateDurationUnit → Bool
admits_months Years = true
admits_months Months = true
admits_months _ = false

abbrev pub admits_weeks : DateDurationUnit → Bool
admits_weeks Weeks = true
admits_weeks _ = false

-- d is the difference from t to u: each admitted unit in turn, largest first,
-- is the greatest number that does not surpass u
pub record IsDifference (c : CalendarList) (t u : Date) (unit : DateDurationUnit) (d : DateDuration) : Type 0 where
  pub sign : IsTrue d.is_negative ↔ (day_number c u <ℤ day_number c t)
  pub years : IsGreatestIf (admits_years unit) (YearsSurpass c t u d.is_negative) d.years
  pub months : IsGreatestIf (admits_months unit) (MonthsSurpass c t u d.is_negative d.years) d.months
  pub weeks : IsGreatestIf (admits_weeks unit) (λ k. DaysSurpass c t u d.is_negative d.years d.months (7 * k)) d.weeks
  pub days : IsGreatest (λ k. DaysSurpass c t u d.is_negative d.years d.months (7 * d.weeks + k)) d.days

-- which largest unit an option asks for: Days, where it is left out
abbrev pub largest_unit_of : Option DateDurationUnit → DateDurationUnit
largest_unit_of None = Days
largest_unit_of (Some unit) = unit
