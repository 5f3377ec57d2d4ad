use Rattle.std.proofs.Common.{◌≡◌, ◌-◌, ◌≤◌, drop, length}
use Rattle.std.specs.Cmp.Lexicographic.{pointwise}
use Rattle.cal_hijri.specs.HijriRows.{is_same_row}
use Rattle.cal_hijri.proofs.hijri_table.are_same_rows.Given as goal

-- what is left to compare decides
abbrev pub invariant-rows : goal.invariant-rows
invariant-rows l =
    record {
      within : l.index ≤ length l.fn.rows;
      left : pointwise is_same_row (drop l.index l.fn.rows) (drop l.index l.fn.others) ≡ pointwise is_same_row l.fn.rows l.fn.others;
    }

abbrev pub decreases-rows : goal.decreases-rows
decreases-rows l = length l.fn.rows - l.index
