use Rattle.std.proofs.Common.{◌≡◌, arith}
use Rattle.cal_days.specs.Division.{floor_div}
use Rattle.cal_days.specs.Coptic.{coptic_start}
use Rattle.cal_days.proofs.Signed.{signed}
use Rattle.cal_days.proofs.DivisionLemmas.{floor_parts}
use Rattle.cal_days.proofs.CopticLemmas.{coptic_start-next}
use Rattle.cal_days.proofs.coptic.year_start.Goals as goal

-- the quotient is that of the year
fourth : (c : goal.After-from-2) → c.div_euclid-fourths.result ≡ floor_div c.args.year 4
unfolding floor_div
fourth c = omega (arith, signed, c.from.ensures, c.div_euclid-fourths.ensures)

pub overflow_add-from-2 : goal.overflow_add-from-2
overflow_add-from-2 c = omega (arith, signed, c.from-2.ensures, fourth c, floor_parts c.args.year 4)

pub new-requires : goal.new-requires
new-requires c = (omega (arith, signed, c.from-2.ensures, fourth c, floor_parts c.args.year 4), omega (arith, signed, c.from-2.ensures, fourth c, floor_parts c.args.year 4))

pub returns-clause-formula : goal.returns-clause-formula
unfolding coptic_start floor_div
returns-clause-formula c =
    let quotient : c.div_euclid-fourths.result ≡ floor_div c.args.year 4 = omega (arith, signed, c.from.ensures, c.div_euclid-fourths.ensures) in
    omega (arith, signed, c.from-2.ensures, quotient, floor_parts c.args.year 4, c.new.ensures)

pub returns-clause-joins : goal.returns-clause-joins
returns-clause-joins c = coptic_start-next c.args.year
