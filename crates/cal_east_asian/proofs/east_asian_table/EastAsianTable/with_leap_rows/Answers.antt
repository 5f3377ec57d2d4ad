use Rattle.cal_east_asian.specs.laws.ComputedLaws.{computed_year}
use Rattle.cal_east_asian.specs.laws.RowNameLaws.{accepted-named, accepted-years}
use Rattle.cal_east_asian.proofs.east_asian_table.EastAsianTable.with_leap_rows.Goals as goal

pub invariant_of-result-clause-accepted : goal.invariant_of-result-clause-accepted
invariant_of-result-clause-accepted c = accepted-years (computed_year c.args.side) c.args.rows.now c.requires.accepted

pub invariant_of-result-clause-named : goal.invariant_of-result-clause-named
invariant_of-result-clause-named c = accepted-named (computed_year c.args.side) c.args.rows.now c.requires.accepted
