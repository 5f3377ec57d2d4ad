use Rattle.std.proofs.Common.{◌≡◌, ◌*◌, ◌≤◌, take}
use Rattle.cal_listed.specs.YearList.{days_in}
use Rattle.cal_listed.proofs.listed_years.counting.days_in.Given as goal

-- the days of the months so far
abbrev pub invariant-loop-m : goal.invariant-loop-m
invariant-loop-m l = record { value : l.days ≡ days_in (take l.m-index l.months); bound : l.days ≤ 255 * l.m-index }
