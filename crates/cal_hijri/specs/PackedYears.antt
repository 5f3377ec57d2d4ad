-- The year of a packed date.
use Rattle.std.specs.Prelude.{ℕ, List, ◌+ℤ◌}
use Rattle.cal_days.specs.Islamic.{islamic_mean_start}
use Rattle.date_bytes.specs.Bytes.{year_from}
use Rattle.date_bytes.specs.HijriBytes.{long_in, offset_in}
use Rattle.cal_hijri.specs.laws.PackedLaws.{near-by, twelve-by}
use Rattle.cal_hijri.specs.declared.hijri_year.HijriYear.{HijriYear}

-- the first day is so many days after the mean start
abbrev pub packed_year : List ℕ → HijriYear
packed_year p = record {
  first_day = islamic_mean_start (year_from 2 p) +ℤ offset_in p;
  extended_year = year_from 2 p;
  long_months = long_in p;
  near = near-by p (year_from 2 p);
  twelve = twelve-by p;
}
