-- Weeks of a year, and weekdays by their place in a month or year.
-- Source: RFC 5545, 3.3.10: week 1 is the first that has four days in the year.
use Rattle.std.specs.Prelude.{◌≡◌, ⊤, ℕ, ◌≤◌, ◌*◌, ◌-◌, Option, Some, None, IsTrue, ℤ, pos, ◌+ℤ◌, ◌-ℤ◌, ◌≤ℤ◌, ◌<ℤ◌}
use Rattle.cal_days.specs.Division.{floor_mod}
use Rattle.cal_types.specs.CalendarList.{CalendarList}
use Rattle.cal_types.specs.Weekday.{days_since_sunday}
use Rattle.cal_types.specs.declared.weekday.Weekday.{Weekday}
use Rattle.cal_rule.specs.Sets.{has_weekday}
use Rattle.cal_rule.specs.declared.place_set.Place.{Place}
use Rattle.cal_rule.specs.declared.place_set.Place.TheVariants.{FromFront, FromBack}
use Rattle.cal_rule.specs.declared.weekday_places.WeekdayPlace.{WeekdayPlace}
use Rattle.cal_rule.specs.declared.weekday_places.WeekdayPlaces.{WeekdayPlaces}
use Rattle.cal_rrule.specs.Stretches.{InStretch, Stretch, year_stretch}

-- a day is this weekday; day 0 is a Sunday
abbrev pub IsWeekday : Weekday → ℤ → Type 0
IsWeekday day n = floor_mod n 7 ≡ days_since_sunday day

-- some weeks before a day, and behind it
abbrev pub weeks_before : ℤ → ℕ → ℤ
weeks_before n k = n -ℤ pos (7 * k)

abbrev pub weeks_behind : ℤ → ℕ → ℤ
weeks_behind n k = n +ℤ pos (7 * k)

-- a week, by its first day, is one of a day
abbrev pub IsWeekOf : Weekday → ℤ → ℤ → Type 0
IsWeekOf start n w = IsWeekday start w × (w ≤ℤ n) × (n <ℤ (w +ℤ pos 7))

-- a week belongs to the year that its fourth day is in
abbrev pub BelongsTo : CalendarList → ℤ → ℤ → Type 0
BelongsTo c y w = InStretch (year_stretch c y) (w +ℤ pos 3)

-- a day is the k-th of the days that lie whole weeks before or behind it and are of a kind, where those of the kind are
-- in a row: from the front or from the back
abbrev pub IsNth : (ℤ → Type 0) → ℤ → Place → Type 0
IsNth Is n (FromFront k) = (1 ≤ k) × Is n × Is (weeks_before n (k - 1)) × ¬ (Is (weeks_before n k))
IsNth Is n (FromBack k) = (1 ≤ k) × Is n × Is (weeks_behind n (k - 1)) × ¬ (Is (weeks_behind n k))

-- a week has a number in its year: so many weeks of the year, less one, lie before it or behind it
abbrev pub IsWeekNumber : CalendarList → ℤ → ℤ → Place → Type 0
IsWeekNumber c y w k = IsNth (BelongsTo c y) w k

-- a day is the one of its weekday in a stretch that an ordinal names; without an ordinal every day is
abbrev pub HasOrdinal : Stretch → ℤ → Option Place → Type 0
HasOrdinal s n None = ⊤
HasOrdinal s n (Some k) = IsNth (InStretch s) n k

-- a day is one of some weekdays, by its place in a stretch
abbrev pub IsAmongWeekdays : WeekdayPlaces → Stretch → ℤ → Type 0
IsAmongWeekdays set s n =
    (w : WeekdayPlace) × IsTrue (has_weekday set w) × IsWeekday w.day n × HasOrdinal s n w.ordinal
