-- The fields of a date that name its month by its place in the year, and what is out of its range where they name none.
use Rattle.std.specs.Prelude.{ℕ, ℤ, pos, List, codes, Option, Some, None}
use Rattle.cal_types.specs.Bag.{Bag}
use Rattle.cal_errors.specs.RangeParts.{RangeParts, DateFault, OutOfRange, NoEra}
use Rattle.cal_errors.specs.declared.errors.DateFromFieldsError.{DateFromFieldsError}
use Rattle.cal_errors.specs.declared.errors.DateFromFieldsError.TheVariants.{InvalidEra, InvalidOrdinalMonth, InvalidDay}
use Rattle.cal_types.specs.Placing.{out_of_range}

-- an extended year, the place of a month and a day
abbrev pub year_place_day : ℤ → ℕ → ℕ → Bag
year_place_day y i d = record {
  era = None;
  era_year = None;
  extended_year = Some y;
  month = None;
  month_code = None;
  ordinal_month = Some i;
  day = Some d;
}

-- an era and a year in it, the place of a month and a day
abbrev pub era_place_day : List ℕ → ℤ → ℕ → ℕ → Bag
era_place_day era n i d = record {
  era = Some era;
  era_year = Some n;
  extended_year = None;
  month = None;
  month_code = None;
  ordinal_month = Some i;
  day = Some d;
}

-- where the fields' fault is that of the place or of the day: which number is out of which range
abbrev pub number_fault : ℕ → ℕ → DateFromFieldsError → Option RangeParts
number_fault i d (InvalidOrdinalMonth max) = Some (out_of_range (codes "month") (pos i) (pos 1) (pos max))
number_fault i d (InvalidDay max) = Some (out_of_range (codes "day") (pos d) (pos 1) (pos max))
number_fault i d e = None

-- a number that is out of its range; else the era, where that is at fault
abbrev pub number_or_era : Option RangeParts → DateFromFieldsError → Option DateFault
number_or_era (Some f) e = Some (OutOfRange f)
number_or_era None InvalidEra = Some NoEra
number_or_era None e = None

abbrev pub number_or_era_fault : ℕ → ℕ → DateFromFieldsError → Option DateFault
number_or_era_fault i d e = number_or_era (number_fault i d e) e
