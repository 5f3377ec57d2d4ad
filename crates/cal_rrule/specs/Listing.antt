-- The occurrences of a rule that are left.
use Rattle.std.specs.Prelude.{◌≡◌, ◌↔◌, AllPairs, Contains, ℕ, List, Option, Some, None, ℤ, ◌<ℤ◌}
use Rattle.cal_days.specs.Day.{IsBetween}
use Rattle.cal_types.specs.CalendarList.{CalendarList, Date, day_number}
use Rattle.cal_types.specs.declared.window.Window.{Window}
use Rattle.cal_rule.specs.declared.rule.RecurrenceRule.{RecurrenceRule}
use Rattle.recurrence_sets.specs.Bounds.{later}
use Rattle.recurrence_sets.specs.Listing as listing
use Rattle.recurrence_sets.specs.Occurrences as sets
use Rattle.recurrence_sets.specs.Occurrences.{IsOfSome}
use Rattle.recurrence_sets.specs.declared.bounds.Bounds.{Bounds}
use Rattle.recurrence_sets.specs.declared.occurrence.Occurrence.{Occurrence}
use Rattle.cal_rrule.specs.Blocks.{IsOfBlock, start_of}
use Rattle.cal_rrule.specs.Occurrences.{IsKept, Occurs, bounds_of}
use Rattle.cal_rrule.specs.declared.asked.Asked.{Asked}

-- so many of the days on which a rule recurs lie before a day
abbrev pub HasBefore : CalendarList → RecurrenceRule → Date → ℤ → ℕ → Type 0
HasBefore c rule t day index = listing.HasBefore (IsOfSome (IsKept c rule t)) (bounds_of c rule t) day index

-- the same as a listing by blocks says it
abbrev pub HasBeforeOf : CalendarList → Asked → Bounds → ℤ → ℕ → Type 0
HasBeforeOf c asked b day index =
    listing.HasBefore (IsOfSome (IsOfBlock c asked.rule (start_of asked))) b day index

-- some occurrences are those on the days that are left, if any are, as a listing by blocks says it
abbrev pub AreLeftOf : CalendarList → Asked → Bounds → Option Window → List Occurrence → Type 0
AreLeftOf c asked b rest xs = sets.AreLeft (IsOfSome (IsOfBlock c asked.rule (start_of asked))) b rest xs

-- the first day that can be in a list of days alone: the start, or without COUNT the later one of it and the first day
-- of the window
abbrev pub start_from : Option ℕ → ℤ → ℤ → ℤ
start_from None start first = later start first
start_from (Some count) start first = start

-- the bounds of a list of days alone in a window that begins on a day
abbrev pub day_bounds : CalendarList → RecurrenceRule → Date → (first : ℤ) → Bounds
day_bounds c rule t first =
    record { start = start_from rule.count (day_number c t) first; until = rule.until; count = rule.count }

-- some items are those of a list of days alone, in order and each once
abbrev pub AreDayItems : CalendarList → RecurrenceRule → Date → ℤ → ℤ → List Occurrence → Type 0
AreDayItems c rule t first last xs =
    sets.AreOccurrences (IsOfSome (IsKept c rule t)) (day_bounds c rule t first) first last xs

-- some items are on exactly the days of the occurrences of a rule from one day to another, whatever their indices are
pub record AreOnDays (c : CalendarList) (rule : RecurrenceRule) (t : Date) (first last : ℤ) (xs : List Occurrence)
    : Type 0 where
  pub rising : AllPairs (λ x y. x.day <ℤ y.day) xs
  pub exact : (n : ℤ) → ((x : Occurrence) × Contains xs x × (x.day ≡ n))
      ↔ ((index : ℕ) × Occurs c rule t index n × IsBetween first last n)
