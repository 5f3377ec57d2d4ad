-- The Hebrew calendar as a list of years.
-- Source: Reingold and Dershowitz, Calendrical Calculations, chapter 8;
-- the month codes are those of ECMAScript Temporal.
use Rattle.std.specs.Prelude.{ℕ, Bool, true, ◌&&◌, ◌||◌, ◌==◌, nat_le, if◌then◌else◌, List, [], ◌∷◌, ◌++◌, pos, neg_ℤ}
use Rattle.cal_days.specs.Hebrew.{hebrew_leap, hebrew_year_length}
use Rattle.cal_types.specs.Month.{MonthParts}
use Rattle.cal_types.specs.CalendarList.{Entry, CalendarList}
use Rattle.cal_types.specs.PlainMonths.{numbered_month, plain_entry}
use Rattle.cal_arith.specs.Given.{CalendarYears}
use Rattle.cal_hebrew.specs.laws.YearLengths.{length-known}
use Rattle.cal_hebrew.specs.declared.hebrew_year.HebrewYear.{HebrewYear}

-- the leap month after the fifth month
abbrev pub fifth_leap_month : MonthParts
fifth_leap_month = record { number = 5; is_leap = true }

-- a leap year has it, with 30 days; the second month has 30 days in the longest years, and the third 29 in the shortest
abbrev pub hebrew_months : Bool → ℕ → List Entry
hebrew_months leap days =
    plain_entry 1 30 ∷ plain_entry 2 (if days == 355 || days == 385 then 30 else 29)
    ∷ plain_entry 3 (if days == 353 || days == 383 then 29 else 30) ∷ plain_entry 4 29 ∷ plain_entry 5 30
    ∷ ((if leap then record { month = fifth_leap_month; days = 30 } ∷ [] else [])
    ++ (plain_entry 6 29 ∷ plain_entry 7 30 ∷ plain_entry 8 29 ∷ plain_entry 9 30
    ∷ plain_entry 10 29 ∷ plain_entry 11 30 ∷ plain_entry 12 29 ∷ []))

-- the plain months 1 to 12, and the leap month
abbrev pub is_hebrew_month : MonthParts → Bool
is_hebrew_month m = if m.is_leap then m.number == 5 else (nat_le 1 m.number && nat_le m.number 12)

-- what stands in for a month that its year lacks: the sixth month for the leap month
abbrev pub hebrew_stand_in : MonthParts → MonthParts
hebrew_stand_in m = if m.is_leap then numbered_month 6 else m

-- day -1373427 is the first day of year 1
unfoldable pub hebrew_list : CalendarList
hebrew_list = record {
  anchor_year = pos 1;
  anchor_day = neg_ℤ (pos 1373427);
  entries = λ y. hebrew_months (hebrew_leap y) (hebrew_year_length y);
  is_of_kind = is_hebrew_month;
  stand_in = hebrew_stand_in;
}

-- a year keeps its extended year, and how many days it has
abbrev pub hebrew_years : CalendarYears HebrewYear
hebrew_years = record {
  list = hebrew_list;
  year_of = λ y. record { extended_year = y; length = hebrew_year_length y; known = length-known y };
  extended = λ y. y.extended_year;
  offset = pos 0;
}
