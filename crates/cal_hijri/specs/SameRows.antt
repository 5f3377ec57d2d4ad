-- Rows that are equal in number, first day and months.
use Rattle.std.specs.Prelude.{Bool, List}
use Rattle.std.specs.Cmp.Lexicographic.{pointwise}
use Rattle.cal_hijri.specs.HijriList.{has_parts_of}
use Rattle.cal_hijri.specs.declared.hijri_year.HijriYear.{HijriYear}

-- tables are alike where their rows are
abbrev pub are_same_rows : List HijriYear → List HijriYear → Bool
are_same_rows rows others = pointwise has_parts_of rows others
