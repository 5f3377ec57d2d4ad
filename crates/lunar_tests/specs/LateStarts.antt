-- The first day of a late year, and its months.
use Rattle.std.proofs.Common.{ℕ, if◌then◌else◌, ℤ, pos, ◌+ℤ◌, ◌-ℤ◌}
use Rattle.std.specs.Ordering.{int_eq}
use Rattle.cal_days.specs.Islamic.{islamic_mean_start}

abbrev pub late_start : ℤ → ℤ
late_start y = islamic_mean_start y +ℤ pos 5

-- a year that the next one follows after 355 days has a last month of 30 days
abbrev pub late_long : ℤ → ℕ
late_long y = if int_eq (late_start (y +ℤ pos 1) -ℤ late_start y) (pos 355) then 3413 else 1365
