-- The year of a packed date.
use Rattle.std.specs.Prelude.{ℕ, List}
use Rattle.date_bytes.specs.Bytes.{year_from}
use Rattle.cal_base.specs.declared.numbered_year.NumberedYear.{NumberedYear}

abbrev pub packed_year : List ℕ → NumberedYear
packed_year p = record { number = year_from 0 p }
