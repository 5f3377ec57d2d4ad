-- The number and the first day that the numbers of a row are read as.
use Rattle.std.proofs.Common.{ℕ, min, ℤ, pos, ◌+ℤ◌, ◌-ℤ◌}
use Rattle.std.specs.Prelude.{if◌then◌else◌, int_lt, neg_ℤ}
use Rattle.cal_days.specs.Islamic.{islamic_mean_start}

-- the nearest year that year rules are used for
abbrev pub nearest_rule_year : ℤ → ℤ
nearest_rule_year y =
    if int_lt y (neg_ℤ (pos 8000000)) then neg_ℤ (pos 8000000)
    else (if int_lt (pos 8000000) y then pos 8000000 else y)

-- the first day, counted from the earliest, 5 days before the mean year; an offset above 10 is read as 10
abbrev pub start_after : ℤ → ℕ → ℤ
start_after y offset = islamic_mean_start y -ℤ pos 5 +ℤ pos (min offset 10)
