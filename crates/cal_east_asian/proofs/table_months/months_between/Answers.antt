use Rattle.std.proofs.Common.{sym, ap, ◌∙◌, List, slice_get, arith}
use Rattle.cal_days.proofs.Signed.{signed}
use Rattle.cal_east_asian.specs.EastAsianRows.{years_of}
use Rattle.cal_east_asian.specs.declared.east_asian_row.EastAsianRow.{EastAsianRow}
use Rattle.cal_east_asian.proofs.table_months.months_between.Goals as goal

pub months_beside_rows-requires-clause-first : goal.months_beside_rows-requires-clause-first
months_beside_rows-requires-clause-first c = (
  c.in-Some.first,
  ap (λ (xs : List EastAsianRow). slice_get (years_of xs) 0) (sym c.rows.ensures.rows) ∙ (sym c.row_at.ensures ∙ c.in-Some.is),
  omega (arith, signed, c.in-Some.first.valid.0),
)
