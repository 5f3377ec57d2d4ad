-- Rules for tests: each year starts 5 days after the start of the mean year, the latest day that rules may give.
use Rattle.std.proofs.Common.{List, [], ◌∷◌, ℤ, pos, ◌+ℤ◌}
use Rattle.cal_hijri.specs.declared.hijri_year.HijriYear.{HijriYear}
pub use Rattle.lunar_tests.specs.LateStarts.{late_start, late_long}
use Rattle.lunar_tests.specs.laws.LateStartLaws.{late-few, late-near}

abbrev pub late_year : ℤ → HijriYear
late_year y = record {
  extended_year = y;
  first_day = late_start y;
  long_months = late_long y;
  near = late-near y;
  twelve = late-few y;
}

-- the first days of a year's months, and of the next year
abbrev pub late_month_starts : ℤ → ℤ → List ℤ
late_month_starts first next =
    (first +ℤ pos 0) ∷ (first +ℤ pos 30) ∷ (first +ℤ pos 59) ∷ (first +ℤ pos 89) ∷ (first +ℤ pos 118)
    ∷ (first +ℤ pos 148) ∷ (first +ℤ pos 177) ∷ (first +ℤ pos 207) ∷ (first +ℤ pos 236) ∷ (first +ℤ pos 266)
    ∷ (first +ℤ pos 295) ∷ (first +ℤ pos 325) ∷ (next +ℤ pos 0) ∷ []
