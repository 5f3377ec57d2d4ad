-- The days and months that the numbers of a recurrence rule name.
-- Source: RFC 5545, 3.3.10; RFC 7529, 4.1, where SKIP is applied to months first, and then to days.
use Rattle.std.specs.Prelude.{◌≡◌, ℕ, ◌≤◌, ◌<◌, ◌⊎◌, MatchOption, IsTrue, Some, ℤ, pos, ◌+ℤ◌, ◌-ℤ◌, ◌≤ℤ◌, ◌<ℤ◌}
use Rattle.cal_types.specs.CalendarList.{CalendarList, IsMonthsAfter, date, day_number, month_length, place_of, start_of_year, year_length}
use Rattle.cal_types.specs.Month.{MonthParts}
use Rattle.cal_types.specs.PlainMonths.{numbered_month}
use Rattle.cal_rule.specs.declared.place_set.Place.{Place}
use Rattle.cal_rule.specs.declared.place_set.Place.TheVariants.{FromFront, FromBack}
use Rattle.cal_rule.specs.declared.skip.Skip.{Skip}
use Rattle.cal_rule.specs.declared.skip.Skip.TheVariants.{Omit, Backward, Forward}

-- days in a row: the first one, and how many there are
pub record Stretch : Type 0 where
  pub first : ℤ
  pub days : ℕ

-- the day behind a stretch
abbrev pub end_of : Stretch → ℤ
end_of s = s.first +ℤ pos s.days

-- a day is one of a stretch
abbrev pub InStretch : Stretch → ℤ → Type 0
InStretch s n = (s.first ≤ℤ n) × (n <ℤ end_of s)

-- the days of the month in a place of a year
abbrev pub month_stretch : CalendarList → ℤ × ℕ → Stretch
month_stretch c m = record { first = day_number c (date m.0 m.1 1); days = month_length c m.0 m.1 }

-- the days of a year
abbrev pub year_stretch : CalendarList → ℤ → Stretch
year_stretch c y = record { first = start_of_year c y; days = year_length c y }

-- the day that replaces one behind a stretch: none, the last day of the stretch, or the day after it
abbrev pub ReplacesBehind : Skip → Stretch → ℤ → Type 0
ReplacesBehind Omit s n = ⊥
ReplacesBehind Backward s n = n ≡ end_of s -ℤ pos 1
ReplacesBehind Forward s n = n ≡ end_of s

-- the day that replaces one before a stretch: none, the day before the stretch, or its first day
abbrev pub ReplacesBefore : Skip → Stretch → ℤ → Type 0
ReplacesBefore Omit s n = ⊥
ReplacesBefore Backward s n = n ≡ s.first -ℤ pos 1
ReplacesBefore Forward s n = n ≡ s.first

-- a place, counted from 1, names a day of a stretch, or the day that replaces one that the stretch lacks
abbrev pub NamesDay : Skip → Stretch → Place → ℤ → Type 0
NamesDay skip s (FromFront d) n =
    ((1 ≤ d) × (d ≤ s.days) × (n ≡ s.first +ℤ pos d -ℤ pos 1)) ⊎ ((s.days < d) × ReplacesBehind skip s n)
NamesDay skip s (FromBack d) n =
    ((1 ≤ d) × (d ≤ s.days) × (n ≡ end_of s -ℤ pos d)) ⊎ ((s.days < d) × ReplacesBefore skip s n)

-- the month that replaces a leap month which a year lacks: none, the plain month of its number, or the month after it
abbrev pub ReplacesMonth : Skip → CalendarList → ℤ → MonthParts → ℤ × ℕ → Type 0
ReplacesMonth Omit c y m found = ⊥
ReplacesMonth Backward c y m found = (found.0 ≡ y) × (place_of c y (numbered_month m.number) ≡ Some found.1)
ReplacesMonth Forward c y m found =
    (i : ℕ) × (place_of c y (numbered_month m.number) ≡ Some i) × IsMonthsAfter c y i (pos 1) found.0 found.1

-- a month names the month of a year, as its year and its place, or the one that replaces a leap month
abbrev pub NamesMonth : Skip → CalendarList → ℤ → MonthParts → ℤ × ℕ → Type 0
NamesMonth skip c y m found =
    MatchOption (place_of c y m) (IsTrue m.is_leap × ReplacesMonth skip c y m found)
    (λ i. (found.0 ≡ y) × (found.1 ≡ i))
