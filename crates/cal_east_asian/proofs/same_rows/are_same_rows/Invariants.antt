use Rattle.std.proofs.Common.{◌≡◌, ◌≤◌, ◌-◌, length}
use Rattle.std.specs.Prelude.{drop}
use Rattle.std.specs.Cmp.Lexicographic.{pointwise}
use Rattle.cal_east_asian.specs.EastAsianRows.{is_same_row}
use Rattle.cal_east_asian.proofs.same_rows.are_same_rows.Given as goal

-- the rows so far are the same, so the others decide
abbrev pub invariant-rows : goal.invariant-rows
invariant-rows l =
    record {
      within : l.index ≤ length l.fn.one;
      rest : pointwise is_same_row l.fn.one l.fn.other ≡ pointwise is_same_row (drop l.index l.fn.one) (drop l.index l.fn.other);
    }

abbrev pub decreases-rows : goal.decreases-rows
decreases-rows l = length l.fn.one - l.index
