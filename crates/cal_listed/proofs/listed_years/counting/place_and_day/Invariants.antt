use Rattle.std.proofs.Common.{◌≡◌, ◌+◌, take}
use Rattle.cal_listed.specs.YearList.{days_in}
use Rattle.cal_listed.proofs.listed_years.counting.place_and_day.Given as goal

-- the days of the months so far, and those that are left
abbrev pub invariant-loop-i : goal.invariant-loop-i
invariant-loop-i l = days_in (take l.i l.months) + l.left ≡ l.passed
