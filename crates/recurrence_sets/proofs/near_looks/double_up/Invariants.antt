use Rattle.std.proofs.Common.{◌+◌, ◌*◌, ◌-◌, ◌≤◌}
use Rattle.recurrence_sets.specs.Listing.{ArePassed}
use Rattle.recurrence_sets.proofs.near_looks.double_up.Given as goal

-- the periods before the one in front of the last that has begun are passed
abbrev pub invariant-doublings : goal.invariant-doublings
invariant-doublings g l = record {
  passed : ArePassed (g.S.Periods.has l.periods) (l.begun - 1) l.first l.last;
  ticks : l.steps + 14 * l.left ≤ l.fn.steps + 434;
}

abbrev pub decreases-doublings : goal.decreases-doublings
decreases-doublings g l = l.left
