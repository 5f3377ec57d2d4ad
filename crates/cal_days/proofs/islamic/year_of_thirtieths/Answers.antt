use Rattle.std.proofs.Common.{◌≡◌, arith}
use Rattle.cal_days.specs.Division.{floor_div}
use Rattle.cal_days.proofs.Signed.{signed}
use Rattle.cal_days.proofs.DivisionLemmas.{floor_parts}
use Rattle.cal_days.proofs.islamic.year_of_thirtieths.Goals as goal

quotient : (c : goal.After-div_euclid) → c.div_euclid.result ≡ floor_div c.args.thirtieths 10631
unfolding floor_div
quotient c = omega (arith, signed, c.div_euclid.ensures)

pub overflow_cast-result : goal.overflow_cast-result
overflow_cast-result c = omega (arith, signed, c.requires, quotient c, floor_parts c.args.thirtieths 10631)

pub overflow_add-result : goal.overflow_add-result
overflow_add-result c = omega (arith, signed, c.requires, quotient c, floor_parts c.args.thirtieths 10631)

pub returns : goal.returns
returns c = omega (arith, signed, c.requires, quotient c, floor_parts c.args.thirtieths 10631)
