use Rattle.std.proofs.Common.{◌≡◌, ℕ, ◌<◌, ◌-◌, length, Some, slice_get}
use Rattle.cal_hijri.specs.HijriRows.{years_of}
use Rattle.cal_hijri.specs.RowsAccepted.{MeetsAll}
use Rattle.cal_hijri.specs.TableAccepted.{IsRow, IsTableYear}
use Rattle.cal_hijri.specs.TableFriday.{friday_year}
use Rattle.cal_hijri.specs.declared.hijri_row.HijriRow.{HijriRow}
use Rattle.cal_hijri.specs.declared.hijri_year.HijriYear.{HijriYear}
use Rattle.cal_hijri.proofs.hijri_table.check.Given as goal

abbrev pub invariant-rows : goal.invariant-rows
invariant-rows l = record {
  met : (i : ℕ) (row : HijriRow) → i < l.index → slice_get l.fn.rows i ≡ Some row → MeetsAll friday_year l.fn.rows i row;
  late : (i : ℕ) (row : HijriYear) → i < l.index → IsRow (years_of l.fn.rows) i row → IsTableYear row.extended_year;
}

abbrev pub decreases-rows : goal.decreases-rows
decreases-rows l = length l.fn.rows - l.index
