-- A calendar by a list of some of its years, and what is counted over it.
use Rattle.std.specs.Prelude.{◌≡◌, ℕ, map, length, slice_get, Option, Some, MatchOption, ℤ, pos, ◌+ℤ◌, ◌≤ℤ◌, ◌<ℤ◌}
use Rattle.cal_types.specs.MonthParts.{month_parts}
use Rattle.cal_listed.specs.declared.listed_years.ListedMonth.{ListedMonth}
use Rattle.cal_listed.specs.declared.listed_years.ListedDate.{ListedDate}
use Rattle.cal_listed.specs.declared.listed_years.ListedYears.{ListedYears}
use Rattle.cal_listed.specs.YearList.{YearList}
use Rattle.cal_types.specs.declared.duration.DateDuration.{DateDuration}
use Rattle.cal_types.specs.declared.duration.DateDurationUnit.{DateDurationUnit}
use Rattle.cal_types.specs.CalendarList.{CalendarList, Date, date, Entry, IsDate, IsLawful, IsOn, start_of_year}
use Rattle.cal_types.specs.Difference.{IsDifference}

-- a listed month as an entry of a calendar
abbrev pub entry_of : ListedMonth → Entry
entry_of m = record { month = month_parts m.month; days = m.days }

-- the calendar has the listed years, and the first of them starts on its day
pub record IsListOf (c : CalendarList) (l : ListedYears) : Type 0 where
  pub first_day : start_of_year c l.first_year ≡ l.first_day
  pub months : (k : ℕ) (year : YearList) → slice_get l.years.now k ≡ Some year
      → c.entries (l.first_year +ℤ pos k) ≡ map entry_of year.now

-- the year is one of those listed
abbrev pub IsListed : ListedYears → ℤ → Type 0
IsListed l y = (l.first_year ≤ℤ y) × (y <ℤ (l.first_year +ℤ pos (length l.years.now)))

-- a listed date as a date of a calendar
abbrev pub date_of : ListedDate → Date
date_of t = date t.year t.month t.day

-- the day number of a date, where its year is listed and has it
abbrev pub IsDayNumberOf : ListedYears → Date → Option ℤ → Type 0
IsDayNumberOf l t r = (c : CalendarList) → IsListOf c l →
    MatchOption r (IsListed l t.year → IsDate c t → ⊥) (λ n. IsListed l t.year × IsOn c n t)

-- how many days a date lies after the first listed day, where its year is listed and has it
abbrev pub IsDaysAfterFirst : ListedYears → Date → Option ℕ → Type 0
IsDaysAfterFirst l t r = (c : CalendarList) → IsListOf c l →
    MatchOption r (IsListed l t.year → IsDate c t → ⊥) (λ n. IsListed l t.year × IsOn c (l.first_day +ℤ pos n) t)

-- the date of a day number, where its year is listed
abbrev pub IsDateOn : ListedYears → ℤ → Option ListedDate → Type 0
IsDateOn l n r = (c : CalendarList) → IsListOf c l →
    MatchOption r ((t : Date) → IsListed l t.year → IsOn c n t → ⊥) (λ t. IsListed l t.year × IsOn c n (date_of t))

-- the difference of two dates in a unit, where both are dates of listed years
abbrev pub IsDifferenceOf : ListedYears → Date → Date → DateDurationUnit → Option DateDuration → Type 0
IsDifferenceOf l t u unit r = (c : CalendarList) → IsListOf c l → IsLawful c →
    MatchOption r (IsListed l t.year → IsDate c t → IsListed l u.year → IsDate c u → ⊥) (λ d. IsDifference c t u unit d)
