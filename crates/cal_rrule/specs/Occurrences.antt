-- The occurrences of a rule.
-- Source: RFC 5545, 3.3.10.
use Rattle.std.specs.Prelude.{ℕ, ◌⊎◌, IsTrue, List, ℤ}
use Rattle.cal_types.specs.CalendarList.{CalendarList, Date, day_number}
use Rattle.cal_rule.specs.Sets.{has_place}
use Rattle.cal_rule.specs.declared.place_set.Place.{Place}
use Rattle.cal_rule.specs.declared.rule.RecurrenceRule.{RecurrenceRule}
use Rattle.recurrence_sets.specs.Days.{HasPlaceAmong}
use Rattle.recurrence_sets.specs.Occurrences as sets
use Rattle.recurrence_sets.specs.Occurrences.{IsOfSome}
use Rattle.recurrence_sets.specs.declared.bounds.Bounds.{Bounds}
use Rattle.recurrence_sets.specs.declared.occurrence.Occurrence.{Occurrence}
use Rattle.cal_rrule.specs.Periods.{IsMissing, IsOfPeriod}

-- a day of period k of a rule, whose place among these days is one of BYSETPOS, where that is there
abbrev pub IsKept : CalendarList → RecurrenceRule → Date → ℕ → ℤ → Type 0
IsKept c rule t k n =
    IsOfPeriod c rule t k n
    × (IsMissing has_place rule.positions
    ⊎ ((p : Place) × IsTrue (has_place rule.positions p) × HasPlaceAmong (IsOfPeriod c rule t k) n p))

-- the bounds of a rule that starts on a date
abbrev pub bounds_of : CalendarList → RecurrenceRule → Date → Bounds
bounds_of c rule t = record { start = day_number c t; until = rule.until; count = rule.count }

-- a day on which a rule recurs, from its start on and up to UNTIL, whatever COUNT is
abbrev pub Recurs : CalendarList → RecurrenceRule → Date → ℤ → Type 0
Recurs c rule t n = sets.Recurs (IsOfSome (IsKept c rule t)) (bounds_of c rule t) n

-- an occurrence of a rule that starts on a date: so many of the days lie before it, and fewer than COUNT
abbrev pub Occurs : CalendarList → RecurrenceRule → Date → ℕ → ℤ → Type 0
Occurs c rule t index n = sets.Occurs (IsOfSome (IsKept c rule t)) (bounds_of c rule t) index n

-- some occurrences are those of a rule from one day to another, in order and each once
abbrev pub AreOccurrences : CalendarList → RecurrenceRule → Date → ℤ → ℤ → List Occurrence → Type 0
AreOccurrences c rule t first last xs =
    sets.AreOccurrences (IsOfSome (IsKept c rule t)) (bounds_of c rule t) first last xs
