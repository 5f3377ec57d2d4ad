use Rattle.std.proofs.Common.{◌≡◌, ◌≤◌, ◌-◌}
use Rattle.calspan_run.specs.Generator.{AreTotals}
use Rattle.calspan_run.specs.TotalBounds.{AreBounded, counted}
use Rattle.calspan_run.proofs.generated.totals.totals_over.Given as goal

abbrev pub invariant-requests : goal.invariant-requests
invariant-requests l = record {
  within : l.index ≤ l.fn.count;
  totals : AreTotals l.index l.totals;
  bounded : AreBounded l.totals;
  number : counted l.totals ≡ l.index;
}

abbrev pub decreases-requests : goal.decreases-requests
decreases-requests l = l.fn.count - l.index
