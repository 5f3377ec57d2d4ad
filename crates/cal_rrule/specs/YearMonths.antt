-- The days that a rule names in a year, month by month. The start is given by its month and its day of the month.
use Rattle.std.specs.Prelude.{◌≡◌, ℕ, ◌⊎◌, IsTrue, Some, None, ℤ, pos, ◌<ℤ◌}
use Rattle.cal_types.specs.CalendarList.{CalendarList, HasPlace, IsMonthsAfter, date, day_number, month_at, place_of}
use Rattle.cal_types.specs.Month.{MonthParts}
use Rattle.cal_types.specs.PlainMonths.{numbered_month}
use Rattle.cal_rule.specs.Sets.{has_month, has_place}
use Rattle.cal_rule.specs.declared.place_set.Place.{Place}
use Rattle.cal_rule.specs.declared.place_set.Place.TheVariants.{FromFront}
use Rattle.cal_rule.specs.declared.rule.RecurrenceRule.{RecurrenceRule}
use Rattle.cal_rule.specs.declared.skip.Skip.{Skip}
use Rattle.cal_rule.specs.declared.skip.Skip.TheVariants.{Omit, Backward, Forward}
use Rattle.cal_rrule.specs.Looks.{IsNamedInYearMonth}
use Rattle.cal_rrule.specs.Periods.{Given, NoDays, NoMonthDays, NoMonths, NoYearDays}
use Rattle.cal_rrule.specs.Stretches.{InStretch, NamesDay, NamesMonth, month_stretch}

-- the rule names all months of a year
abbrev pub NamesAllMonths : RecurrenceRule → Type 0
NamesAllMonths rule = NoMonths rule × ¬ (NoDays rule)

-- a month that a rule names: one of BYMONTH, or the start's month where no part says anything
abbrev pub SaysMonthOf : RecurrenceRule → MonthParts → MonthParts → Type 0
SaysMonthOf rule start m = IsTrue (has_month rule.months m) ⊎ (NoDays rule × NoMonths rule × (m ≡ start))

-- a month of a year is one that a rule names in it
abbrev pub IsYearMonthOf : CalendarList → RecurrenceRule → MonthParts → ℤ → ℤ × ℕ → Type 0
IsYearMonthOf c rule start y found =
    Given (NamesAllMonths rule) ((m : MonthParts) × SaysMonthOf rule start m × NamesMonth rule.skip c y m found)
    ((found.0 ≡ y) × HasPlace c y found.1)

-- a day that a rule names in a month of a year
abbrev pub IsOfYearMonths : CalendarList → RecurrenceRule → MonthParts → ℕ → ℤ → ℤ → Type 0
IsOfYearMonths c rule start day y n =
    (found : ℤ × ℕ) × IsYearMonthOf c rule start y found × IsNamedInYearMonth rule day (month_stretch c found) n

-- a day of a month that a rule names, where it isn't asked for BYYEARDAY alone
abbrev pub IsYearMonthDayOf : CalendarList → RecurrenceRule → MonthParts → ℕ → ℤ → ℤ → Type 0
IsYearMonthDayOf c rule start day y n =
    Given (NoMonthDays rule × ¬ (NoDays rule))
    ((found : ℤ × ℕ) × IsYearMonthOf c rule start y found × (d : Place)
    × (IsTrue (has_place rule.month_days d) ⊎ (NoDays rule × (d ≡ FromFront day)))
    × NamesDay rule.skip (month_stretch c found) d n)
    (¬ (NoMonths rule × ¬ (NoYearDays rule)) →
    (found : ℤ × ℕ) × IsYearMonthOf c rule start y found × InStretch (month_stretch c found) n)

-- a month is named as itself
abbrev pub IsNamedMonth : RecurrenceRule → MonthParts → MonthParts → Type 0
IsNamedMonth rule start m = NamesAllMonths rule ⊎ SaysMonthOf rule start m

-- a year lacks a leap month, and has the plain month of its number in a place
pub record LacksLeap (c : CalendarList) (y : ℤ) (i : ℕ) (m : MonthParts) : Type 0 where
  pub is_leap : IsTrue m.is_leap
  pub lacks : place_of c y m ≡ None
  pub plain : place_of c y (numbered_month m.number) ≡ Some i

-- a rule names a leap month that a year lacks, and whose plain month is in a place of it
abbrev pub NamesLacking : CalendarList → RecurrenceRule → MonthParts → ℤ → ℕ → Type 0
NamesLacking c rule start y i = (m : MonthParts) × LacksLeap c y i m × SaysMonthOf rule start m

-- a month replaces a leap month whose plain month is in a place of a year: none, that month, or the month after it
abbrev pub ReplacesAt : Skip → CalendarList → ℤ → ℕ → ℤ × ℕ → Type 0
ReplacesAt Omit c y i found = ⊥
ReplacesAt Backward c y i found = (found.0 ≡ y) × (found.1 ≡ i)
ReplacesAt Forward c y i found = IsMonthsAfter c y i (pos 1) found.0 found.1

-- a month that a rule names in a year by the month in a place of it: that month, or one that replaces a leap month
abbrev pub IsNamedAt : CalendarList → RecurrenceRule → MonthParts → ℤ → ℕ → ℤ × ℕ → Type 0
IsNamedAt c rule start y i found =
    ((found.0 ≡ y) × (found.1 ≡ i) × IsNamedMonth rule start (month_at c y i))
    ⊎ (NamesLacking c rule start y i × ReplacesAt rule.skip c y i found)

-- a day that a rule names in a year by the month in a place of it
abbrev pub IsNamedByMonth : CalendarList → RecurrenceRule → MonthParts → ℕ → ℤ → ℕ → ℤ → Type 0
IsNamedByMonth c rule start day y i n =
    (found : ℤ × ℕ) × IsNamedAt c rule start y i found × IsNamedInYearMonth rule day (month_stretch c found) n

-- a day that a rule names in a year by one of its months that begins before a day
abbrev pub IsNamedBefore : CalendarList → RecurrenceRule → MonthParts → ℕ → ℤ → ℤ → ℤ → Type 0
IsNamedBefore c rule start day y end n =
    (i : ℕ) × HasPlace c y i × (day_number c (date y i 1) <ℤ end) × IsNamedByMonth c rule start day y i n
