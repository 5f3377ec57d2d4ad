-- The corrected years of a Persian calendar.
use Rattle.std.specs.Prelude.{Bool, List, ℤ}
use Rattle.std.specs.Ordering.{int_eq}
use Rattle.std.specs.Cmp.Lexicographic.{pointwise}
use Rattle.cal_julian.specs.declared.persian.Persian.{Persian}

abbrev pub corrected_years : Persian → List ℤ
corrected_years s = s.corrections.years.now

-- two calendars are alike where they correct the same years
abbrev pub are_corrected_alike : Persian → Persian → Bool
are_corrected_alike s t = pointwise int_eq (corrected_years s) (corrected_years t)
