use Rattle.std.proofs.Common.{◌≡◌, ◌+◌, ◌≤◌, ◌-ℤ◌, ◌≤ℤ◌}
use Rattle.cal_days.specs.Sums.{years_up}
use Rattle.recurrence_sets.specs.Passing.{IsPassing}
use Rattle.recurrence_sets.proofs.passing.pass_before.Given as goal

-- the days before the next one are passed
abbrev pub invariant-days : goal.invariant-days
invariant-days g l = record {
  passed : IsPassing (g.S.Periods.has l.periods) l.last l.passed;
  first : l.passed.first ≡ l.fn.first;
  most : l.passed.next ≤ℤ l.day;
  ticks : l.steps ≤ l.fn.steps + 2 + l.passed.looks.period;
}

abbrev pub decreases-days : goal.decreases-days
decreases-days g l = years_up (l.day -ℤ l.passed.next)
