-- The year of a packed date.
use Rattle.std.specs.Prelude.{slice_index, ℕ, List}
use Rattle.date_bytes.specs.Bytes.{year_from}
use Rattle.date_bytes.specs.HebrewBytes.{length_in}
use Rattle.cal_hebrew.specs.laws.YearLengths.{length_of-known}
use Rattle.cal_hebrew.specs.declared.hebrew_year.HebrewYear.{HebrewYear}

abbrev pub packed_year : List ℕ → HebrewYear
packed_year p =
    record { extended_year = year_from 1 p; length = length_in p; known = length_of-known (slice_index p 0) }
