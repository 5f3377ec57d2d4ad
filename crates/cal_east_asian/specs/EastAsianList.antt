-- A Chinese or Korean calendar as a list of years, from the years that its rules give.
-- Source: the month codes are those of ECMAScript Temporal.
use Rattle.std.specs.Prelude.{List, ℤ, pos}
use Rattle.cal_types.specs.CalendarList.{Entry, CalendarList}
use Rattle.cal_types.specs.PlainMonths.{numbered_month}
use Rattle.cal_arith.specs.Given.{CalendarYears}
use Rattle.cal_east_asian.specs.EastAsianMonths.{year_entries}
use Rattle.cal_east_asian.specs.RuleYears.{rule_year}
use Rattle.cal_east_asian.specs.EastAsianPlaces.{is_east_asian_month}
use Rattle.cal_east_asian.specs.declared.east_asian_traditional_year.EastAsianTraditionalYear.{EastAsianTraditionalYear}

-- the months of a year
abbrev pub entries_of : EastAsianTraditionalYear → List Entry
entries_of year = year_entries year.leap_month year.long_months

-- each year with the months that the rules give, also past the rule years, where it has those of the last rule year;
-- the plain month of the same number stands in for a leap month that a year lacks
unfoldable pub east_asian_list : (ℤ → EastAsianTraditionalYear) → CalendarList
east_asian_list year_of = record {
  anchor_year = pos 1;
  anchor_day = (year_of (pos 1)).new_year;
  entries = λ y. entries_of (year_of (rule_year y));
  is_of_kind = is_east_asian_month;
  stand_in = λ m. numbered_month m.number;
}

-- a year keeps its number, its first day and its months
abbrev pub east_asian_years : (ℤ → EastAsianTraditionalYear) → CalendarYears EastAsianTraditionalYear
east_asian_years year_of = record {
  list = east_asian_list year_of;
  year_of = year_of;
  extended = λ y. y.related_iso;
  offset = pos 0;
}
