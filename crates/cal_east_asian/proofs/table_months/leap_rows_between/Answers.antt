use Rattle.std.proofs.Common.{◌-◌, List, length, drop, ap, arith}
use Rattle.std.proofs.lemmas.List.{length-drop, length-take}
use Rattle.cal_east_asian.specs.declared.east_asian_row.EastAsianRow.{EastAsianRow}
use Rattle.cal_east_asian.proofs.TableMonthLemmas.{few-rows}
use Rattle.cal_east_asian.proofs.table_months.leap_rows_between.Goals as goal

pub count_leap_rows-requires : goal.count_leap_rows-requires
count_leap_rows-requires c =
    let rows = c.rows-rows.result.now in
    let many = ap (λ (xs : List EastAsianRow). length xs) c.rows-rows.ensures.rows in
    omega (arith, few-rows c.args.table.now, many, length-take (c.args.to - c.args.from) (drop c.args.from rows), length-drop c.args.from rows)
