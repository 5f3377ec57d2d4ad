use Rattle.std.proofs.Common.{arith}
use Rattle.std.proofs.lemmas.List.{length-map}
use Rattle.cal_east_asian.specs.laws.ComputedLaws.{computed_year}
use Rattle.cal_east_asian.specs.EastAsianRows.{row_year, years_of}
use Rattle.cal_east_asian.specs.laws.RowNameLaws.{accepted-named, accepted-years}
use Rattle.cal_east_asian.specs.laws.TableYearLaws.{accepted-few}
use Rattle.cal_east_asian.proofs.east_asian_table.EastAsianTable.try_new.Goals as goal

pub count_leap_rows-requires : goal.count_leap_rows-requires
count_leap_rows-requires c =
    omega (arith, accepted-few (computed_year c.args.side) (years_of c.args.rows.now) (accepted-years (computed_year c.args.side) c.args.rows.now c.in-Ok.ensures.first), length-map c.args.rows.now row_year)

pub invariant_of-result-clause-accepted : goal.invariant_of-result-clause-accepted
invariant_of-result-clause-accepted c = accepted-years (computed_year c.args.side) c.args.rows.now c.in-Ok.ensures.first

pub invariant_of-result-clause-named : goal.invariant_of-result-clause-named
invariant_of-result-clause-named c = accepted-named (computed_year c.args.side) c.args.rows.now c.in-Ok.ensures.first
