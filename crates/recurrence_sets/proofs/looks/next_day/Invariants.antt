use Rattle.std.proofs.Common.{◌+◌, ◌-◌, ◌≤◌}
use Rattle.recurrence_sets.specs.Listing.{AreLooks, ArePassed}
use Rattle.recurrence_sets.proofs.looks.next_day.Given as goal

-- no day is of a period before the one that is looked at
abbrev pub invariant-periods : goal.invariant-periods
invariant-periods g l = record {
  looks : AreLooks (g.S.Periods.has l.periods) l.last l.seen;
  passed : ArePassed (g.S.Periods.has l.periods) l.seen.period l.first l.last;
  ticks : l.steps + l.looks.period ≤ l.fn.steps + l.seen.period;
}

abbrev pub decreases-periods : goal.decreases-periods
decreases-periods g l = 4294967295 - l.seen.period
