use Rattle.std.proofs.Common.{◌≡◌, pos, ◌+ℤ◌, ◌≤ℤ◌, arith}
use Rattle.cal_days.proofs.Signed.{signed}
use Rattle.cal_east_asian.proofs.TableMonthLemmas.{before, kept_run}
use Rattle.cal_east_asian.proofs.table_months.months_without_rows.Goals.{After-computed_months_between}
use Rattle.cal_east_asian.proofs.table_months.months_without_rows.Goals as goal

counted : (c : After-computed_months_between) → (before c.args.table.now c.args.to ≡ before c.args.table.now c.args.from +ℤ c.computed_months_between.result) × (pos 0 ≤ℤ c.computed_months_between.result) × (c.computed_months_between.result ≤ℤ pos 208000000)
counted c =
    kept_run c.args.table.now c.args.from c.args.to c.computed_months_between.result c.side.result
    c.requires.from c.requires.to (omega (arith, signed, c.requires.from, c.requires.to, c.requires.order)) c.requires.computed c.side.ensures c.computed_months_between.ensures

pub overflow_cast-result : goal.overflow_cast-result
overflow_cast-result c = let n = counted (goal.at.overflow_cast-result c).After-computed_months_between in (omega (arith, signed, n), omega (arith, signed, n))

pub returns : goal.returns
returns c = let n = counted (goal.at.returns c).After-computed_months_between in omega (arith, signed, n)
