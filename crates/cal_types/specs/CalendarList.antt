-- A calendar as a list: for each year its months with their lengths, and the first day of one year.
-- Source: the year shapes of Reingold and Dershowitz, Calendrical Calculations;
-- month codes and their order are those of ECMAScript Temporal.
use Rattle.std.specs.Prelude.{◌≡◌, ℕ, ◌+◌, ◌-◌, ◌<◌, ◌≤◌, ◌⊎◌, Bool, false, ◌&&◌, nat_le, nat_eq, IsTrue, List, length, take, sum_by, slice_index_or, Option, Some, None, ℤ, pos, ◌+ℤ◌, ◌<ℤ◌}
use Rattle.std.specs.List.{position_from}
use Rattle.cal_types.specs.Month.{MonthParts, month_rank}
use Rattle.cal_types.specs.declared.options.Overflow.{Overflow}
use Rattle.cal_types.specs.declared.options.Overflow.TheVariants.{Constrain, Reject}
use Rattle.cal_days.specs.Day.{IsValidDay, is_valid_day}
use Rattle.cal_days.specs.Sums.{span}

-- a month of a year, and how many days it has
pub record Entry : Type 0 where
  pub month : MonthParts
  pub days : ℕ

-- what stands past the last place
abbrev pub no_entry : Entry
no_entry = record { month = record { number = 0; is_leap = false }; days = 0 }

-- the days of an entry
abbrev pub days_of : Entry → ℕ
days_of e = e.days

-- for each year its months in order; the first day of one year; which months the calendar knows at all;
-- and, under Constrain, the month that stands in for one that its year lacks
pub record CalendarList : Type 0 where
  pub anchor_year : ℤ
  pub anchor_day : ℤ
  pub entries : ℤ → List Entry
  pub is_of_kind : MonthParts → Bool
  pub stand_in : MonthParts → MonthParts

-- an extended year, the ordinal month, and a day of that month, both from 1
pub record Date : Type 0 where
  pub year : ℤ
  pub month : ℕ
  pub day : ℕ

-- the date of a year, an ordinal month and a day
abbrev pub date : ℤ → ℕ → ℕ → Date
date y i d = record { year = y; month = i; day = d }

-- how many days a year has
abbrev pub year_length : CalendarList → ℤ → ℕ
year_length c y = sum_by days_of (c.entries y)

-- how many months a year has
abbrev pub month_count : CalendarList → ℤ → ℕ
month_count c y = length (c.entries y)

-- the month in place i of a year, with its days
abbrev pub entry_at : CalendarList → ℤ → ℕ → Entry
entry_at c y i = slice_index_or (c.entries y) (i - 1) no_entry

-- the month in place i of a year
abbrev pub month_at : CalendarList → ℤ → ℕ → MonthParts
month_at c y i = (entry_at c y i).month

-- the days of the month in place i of a year
abbrev pub month_length : CalendarList → ℤ → ℕ → ℕ
month_length c y i = (entry_at c y i).days

-- the day number of a year's first day: the lengths of the years from the anchor on are added up,
-- and before it taken away
unfoldable pub start_of_year : CalendarList → ℤ → ℤ
start_of_year c y = c.anchor_day +ℤ span (year_length c) c.anchor_year y

-- the days of a year before its month in place i
unfoldable pub days_before : CalendarList → ℤ → ℕ → ℕ
days_before c y i = sum_by days_of (take (i - 1) (c.entries y))

-- the day number of a date
abbrev pub day_number : CalendarList → Date → ℤ
day_number c t = start_of_year c t.year +ℤ pos (days_before c t.year t.month + (t.day - 1))

-- the year has a month in place i
abbrev pub HasPlace : CalendarList → ℤ → ℕ → Type 0
HasPlace c y i = (1 ≤ i) × (i ≤ month_count c y)

-- the calendar has this date
pub record IsDate (c : CalendarList) (t : Date) : Type 0 where
  pub place : HasPlace c t.year t.month
  pub day : (1 ≤ t.day) × (t.day ≤ month_length c t.year t.month)

-- the same as a test
abbrev pub is_date : CalendarList → Date → Bool
is_date c t =
    (nat_le 1 t.month && nat_le t.month (month_count c t.year))
    && (nat_le 1 t.day && nat_le t.day (month_length c t.year t.month))

-- the calendar has this date, and its day number is in the valid range
pub record IsValidDate (c : CalendarList) (t : Date) : Type 0 where
  pub date : IsDate c t
  pub valid : IsValidDay (day_number c t)

-- the same as a test
abbrev pub is_valid_date : CalendarList → Date → Bool
is_valid_date c t = is_date c t && is_valid_day (day_number c t)

-- t is the date of day number n
pub record IsOn (c : CalendarList) (n : ℤ) (t : Date) : Type 0 where
  pub date : IsDate c t
  pub day : day_number c t ≡ n

-- where a month stands in the sequence of the months of all years
unfoldable pub month_number : CalendarList → ℤ → ℕ → ℤ
month_number c y i = span (month_count c) c.anchor_year y +ℤ pos (i - 1)

-- the month in place j of year z is k months after that in place i of year y; where k is negative, before it
pub record IsMonthsAfter (c : CalendarList) (y : ℤ) (i : ℕ) (k : ℤ) (z : ℤ) (j : ℕ) : Type 0 where
  pub place : HasPlace c z j
  pub moved : month_number c z j ≡ month_number c y i +ℤ k

-- the order of year, then month, then day
abbrev pub IsBefore : ℤ × ℕ × ℕ → ℤ × ℕ × ℕ → Type 0
IsBefore (y, m, d) (z, n, e) = (y <ℤ z) ⊎ ((y ≡ z) × ((m < n) ⊎ ((m ≡ n) × (d < e))))

-- the place of a month in a year, where the year has it
unfoldable pub place_of : CalendarList → ℤ → MonthParts → Option ℕ
place_of c y m = position_from (λ (e : Entry). nat_eq (month_rank e.month) (month_rank m)) 1 (c.entries y)

-- the first of two that is there
abbrev pub first_of_two : Option ℕ → Option ℕ → Option ℕ
first_of_two (Some i) other = Some i
first_of_two None other = other

-- the place of a month in a year, where Constrain takes the stand-in of a month that the year lacks
unfoldable pub spot : CalendarList → ℤ → MonthParts → Overflow → Option ℕ
spot c y m Reject = place_of c y m
spot c y m Constrain = first_of_two (place_of c y m) (place_of c y (c.stand_in m))

-- each year has 12 or 13 months of 1 to 31 days, which rise and are of the calendar's kind;
-- and a month of the kind has a spot in each year
pub record IsLawful (c : CalendarList) : Type 0 where
  pub count : (y : ℤ) → (12 ≤ month_count c y) × (month_count c y ≤ 13)
  pub lengths : (y : ℤ) (i : ℕ) → HasPlace c y i → (1 ≤ month_length c y i) × (month_length c y i ≤ 31)
  pub rises : (y : ℤ) (i j : ℕ) → HasPlace c y i → HasPlace c y j → i < j
      → month_rank (month_at c y i) < month_rank (month_at c y j)
  pub kind : (y : ℤ) (i : ℕ) → HasPlace c y i → IsTrue (c.is_of_kind (month_at c y i))
  pub stands : (y : ℤ) (m : MonthParts) → IsTrue (c.is_of_kind m) → (j : ℕ) × (spot c y m Constrain ≡ Some j)
