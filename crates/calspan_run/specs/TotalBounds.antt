-- How great totals may become.
use Rattle.std.specs.Prelude.{ℕ, ◌+◌, ◌*◌, ◌≤◌, pos, neg_ℤ}
use Rattle.cal_days.specs.Day.{IsBetween}
use Rattle.calspan_run.specs.declared.generated.totals.Totals.{Totals}

-- the requests that are counted
abbrev pub counted : Totals → ℕ
counted t = t.answered + t.refused

-- each request adds at most two valid day numbers, and to each unit at most what 32 bits hold
pub record AreBounded (t : Totals) : Type 0 where
  pub day_numbers : IsBetween (neg_ℤ (pos (730484998 * counted t))) (pos (730484998 * counted t)) t.day_numbers
  pub years : t.years ≤ 4294967295 * counted t
  pub months : t.months ≤ 4294967295 * counted t
  pub weeks : t.weeks ≤ 4294967295 * counted t
  pub days : t.days ≤ 4294967295 * counted t
