use Rattle.std.proofs.Common.{◌≡◌, ◌+◌, take}
use Rattle.cal_listed.specs.YearList.{days_in_years}
use Rattle.cal_listed.proofs.listed_years.ListedYears.date_on.Given as goal

-- the days of the years so far, and those that are left
abbrev pub invariant-loop-index : goal.invariant-loop-index
invariant-loop-index l = days_in_years (take l.index l.self.years.now) + l.left ≡ l.initial.left
