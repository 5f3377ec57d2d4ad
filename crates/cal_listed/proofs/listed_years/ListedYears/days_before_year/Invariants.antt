use Rattle.std.proofs.Common.{◌≡◌, ◌*◌, ◌≤◌, take}
use Rattle.cal_listed.specs.YearList.{days_in_years}
use Rattle.cal_listed.proofs.listed_years.ListedYears.days_before_year.Given as goal

-- the days of the years so far
abbrev pub invariant-loop-k : goal.invariant-loop-k
invariant-loop-k l = record { value : l.days ≡ days_in_years (take l.k l.self.years.now); bound : l.days ≤ 3315 * l.k }
