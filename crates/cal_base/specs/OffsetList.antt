-- The calendars with the months of the proleptic Gregorian calendar, whose years are counted from a year of their own.
use Rattle.std.specs.Prelude.{ℤ, pos, neg_ℤ, ◌+ℤ◌, ◌-ℤ◌}
use Rattle.cal_types.specs.CalendarList.{CalendarList}
use Rattle.cal_types.specs.Renumbered.{renumbered}
use Rattle.cal_types.specs.RenumberedBounds.{IsShift}
use Rattle.cal_arith.specs.Given.{CalendarYears}
use Rattle.cal_base.specs.GregorianList.{gregorian_list}
use Rattle.cal_base.specs.declared.numbered_year.NumberedYear.{NumberedYear}

-- the list whose extended year y is the ISO year y + offset
abbrev pub offset_list : ℤ → CalendarList
offset_list offset = renumbered offset gregorian_list

-- how far the extended years of a calendar may lie from the ISO years: 9999 years at most
abbrev pub IsOffset : ℤ → Type 0
IsOffset offset = IsShift offset

-- the ISO year of an extended year
abbrev pub iso_year_of : ℤ → ℤ → NumberedYear
iso_year_of offset extended_year = record { number = extended_year +ℤ offset }

-- the extended year of an ISO year
abbrev pub extended_year_from : ℤ → NumberedYear → ℤ
extended_year_from offset year = year.number -ℤ offset

-- the calendar's years, which keep the ISO year
abbrev pub offset_years : ℤ → CalendarYears NumberedYear
offset_years offset = record {
  list = offset_list offset;
  year_of = iso_year_of offset;
  extended = extended_year_from offset;
  offset = offset;
}
