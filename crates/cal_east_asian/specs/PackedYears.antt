-- The year of a packed date.
use Rattle.std.specs.Prelude.{ℕ, List, pos, ℤ, ◌+ℤ◌}
use Rattle.date_bytes.specs.Bytes.{year_from}
use Rattle.date_bytes.specs.EastAsianBytes.{leap_in, long_in, start_in}
use Rattle.cal_east_asian.specs.EastAsianYear.{january_19}
use Rattle.cal_east_asian.specs.RuleYears.{rule_year}
use Rattle.cal_east_asian.specs.laws.PackedLaws.{valid-by, few-by}
use Rattle.cal_east_asian.specs.declared.east_asian_traditional_year.EastAsianTraditionalYear.{EastAsianTraditionalYear}

-- the number that bytes hold, or the nearest one of a rule year; four bytes hold no other
abbrev pub year_in : List ℕ → ℤ
year_in p = rule_year (year_from 3 p)

abbrev pub packed_year : List ℕ → EastAsianTraditionalYear
packed_year p = record {
  related_iso = year_in p;
  new_year = january_19 (year_in p) +ℤ pos (start_in p);
  long_months = long_in p;
  leap_month = leap_in p;
  valid = valid-by p;
  few = few-by p;
}
