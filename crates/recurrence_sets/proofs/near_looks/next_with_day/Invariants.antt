use Rattle.std.proofs.Common.{◌+◌, ◌≤◌}
use Rattle.recurrence_sets.proofs.near_looks.next_with_day.Given as goal

-- a tick for each period that was tried
abbrev pub invariant-periods : goal.invariant-periods
invariant-periods g l = l.steps + l.left ≤ l.fn.steps + 14

abbrev pub decreases-periods : goal.decreases-periods
decreases-periods g l = l.left
