-- Days as bits, in words of days.
use Rattle.std.specs.Prelude.{◌≡◌, ℕ, ◌<◌, ◌≤◌, ◌+◌, ◌*◌, ◌⊎◌, ◌↔◌, IsTrue, ℤ, pos, ◌+ℤ◌, ◌≤ℤ◌, ◌<ℤ◌}
use Rattle.cal_rule.specs.Sets.{has_place, number_of}
use Rattle.cal_rule.specs.declared.place_set.Place.{Place}
use Rattle.cal_rule.specs.declared.place_set.PlaceSet.{PlaceSet}
use Rattle.cal_rule.specs.declared.skip.Skip.{Skip}
use Rattle.cal_rule.specs.declared.weekday_places.WeekdayPlaces.{WeekdayPlaces}
use Rattle.cal_rrule.specs.Stretches.{InStretch, NamesDay, Stretch}
use Rattle.cal_rrule.specs.Weeks.{IsAmongWeekdays}
use Rattle.recurrence_sets.specs.PeriodBits.{has_day}
use Rattle.recurrence_sets.specs.declared.period_days.PeriodDays.{PeriodDays}

-- a day is one of the 448 that a set may have
abbrev pub InRow : PeriodDays → ℤ → Type 0
InRow days n = (days.first ≤ℤ n) × (n <ℤ (days.first +ℤ pos 448))

-- the days of a kind are added to a set
pub record Adds (old new : PeriodDays) (Is : ℤ → Type 0) : Type 0 where
  pub first : new.first ≡ old.first
  pub days : (n : ℤ) → InRow old n → IsTrue (has_day new n) ↔ (Is n ⊎ IsTrue (has_day old n))

-- a set has exactly the days of a kind, among some of the 448
pub record Marks (set : PeriodDays) (from to : ℤ) (Is : ℤ → Type 0) : Type 0 where
  pub first : set.first ≡ from
  pub days : (n : ℤ) → from ≤ℤ n → n <ℤ to → IsTrue (has_day set n) ↔ Is n

-- a set that begins on a day has exactly the days of a kind before an end, among its 448
pub record MarksBefore (set : PeriodDays) (from end : ℤ) (Is : ℤ → Type 0) : Type 0 where
  pub first : set.first ≡ from
  pub days : (n : ℤ) → InRow set n → IsTrue (has_day set n) ↔ (Is n × (n <ℤ end))

-- a place of a set names a day
abbrev pub IsNamedBy : {words : ℕ} → PlaceSet words → Skip → Stretch → ℤ → Type 0
IsNamedBy set skip s n = (d : Place) × IsTrue (has_place set d) × NamesDay skip s d n

-- a place of a set below a number names a day
abbrev pub IsNamedBelow : {words : ℕ} → ℕ → PlaceSet words → Skip → Stretch → ℤ → Type 0
IsNamedBelow most set skip s n =
    (d : Place) × (number_of d < most) × IsTrue (has_place set d) × NamesDay skip s d n

-- a day of a stretch is one of some weekdays
abbrev pub IsWeekdayIn : WeekdayPlaces → Stretch → ℤ → Type 0
IsWeekdayIn set s n = InStretch s n × IsAmongWeekdays set s n

-- a day lies a number of steps behind another: fewer than so many
abbrev pub IsStep : ℤ → ℕ → ℕ → ℤ → Type 0
IsStep from every count n = (k : ℕ) × (k < count) × (n ≡ from +ℤ pos (every * k))

-- a day of a stretch that lies whole weeks and so many days behind the first one is one of some weekdays: of fewer
-- weeks
abbrev pub IsWeekdayBelow : WeekdayPlaces → Stretch → ℕ → ℕ → ℤ → Type 0
IsWeekdayBelow set s offset weeks n =
    (k : ℕ) × (k < weeks) × (n ≡ s.first +ℤ pos (offset + 7 * k)) × IsAmongWeekdays set s n

-- the day that lies so many weeks and days behind the first one is among them
abbrev pub IsWeekdayAt : WeekdayPlaces → Stretch → ℕ → ℕ → ℤ → Type 0
IsWeekdayAt set s offset week n = (n ≡ s.first +ℤ pos (offset + 7 * week)) × IsAmongWeekdays set s n

-- the same in the whole stretch
abbrev pub IsWeekdayFrom : WeekdayPlaces → Stretch → ℕ → ℤ → Type 0
IsWeekdayFrom set s offset n =
    (k : ℕ) × (offset + 7 * k < s.days) × (n ≡ s.first +ℤ pos (offset + 7 * k)) × IsAmongWeekdays set s n

-- and of some of the first seven days
abbrev pub IsWeekdayBefore : WeekdayPlaces → Stretch → ℕ → ℤ → Type 0
IsWeekdayBefore set s most n = (offset : ℕ) × (offset < most) × IsWeekdayFrom set s offset n

-- a day lies a multiple of some days behind a start, from one day up to another
abbrev pub IsInterval : ℤ → ℕ → ℤ → ℤ → ℤ → Type 0
IsInterval start every from to n = (k : ℕ) × (n ≡ start +ℤ pos (k * every)) × (from ≤ℤ n) × (n <ℤ to)

-- the same by the numbers of steps, from one up to another
abbrev pub IsIntervalBelow : ℤ → ℕ → ℕ → ℕ → ℤ → ℤ → Type 0
IsIntervalBelow start every low high to n =
    (k : ℕ) × (low ≤ k) × (k < high) × (n ≡ start +ℤ pos (k * every)) × (n <ℤ to)
