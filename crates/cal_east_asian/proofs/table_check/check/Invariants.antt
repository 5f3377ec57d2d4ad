use Rattle.std.proofs.Common.{◌≡◌, ℕ, ◌<◌, ◌-◌, length, Some, slice_get}
use Rattle.cal_east_asian.specs.EastAsianRows.{years_of}
use Rattle.cal_east_asian.specs.RowsAccepted.{MeetsAll}
use Rattle.cal_east_asian.specs.TableYears.{IsRow}
use Rattle.cal_east_asian.specs.TableAccepted.{IsTableYear}
use Rattle.cal_east_asian.specs.laws.ComputedLaws.{computed_year}
use Rattle.cal_east_asian.specs.declared.east_asian_row.EastAsianRow.{EastAsianRow}
use Rattle.cal_east_asian.specs.declared.east_asian_traditional_year.EastAsianTraditionalYear.{EastAsianTraditionalYear}
use Rattle.cal_east_asian.proofs.table_check.check.Given as goal

abbrev pub invariant-rows : goal.invariant-rows
invariant-rows l = record {
  met : (i : ℕ) (row : EastAsianRow) → i < l.index → slice_get l.fn.rows i ≡ Some row → MeetsAll (computed_year l.fn.side) l.fn.rows i row;
  late : (i : ℕ) (row : EastAsianTraditionalYear) → i < l.index → IsRow (years_of l.fn.rows) i row → IsTableYear row.related_iso;
}

abbrev pub decreases-rows : goal.decreases-rows
decreases-rows l = length l.fn.rows - l.index
