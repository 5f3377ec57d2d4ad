use Rattle.std.proofs.Common.{◌≡◌, ◌∙◌, FitsSigned, to_z, of_z, w32, rules, arith}
use Rattle.cal_days.specs.Division.{floor_div}
use Rattle.cal_days.proofs.Signed.{signed}
use Rattle.cal_days.proofs.DivisionLemmas.{floor_div-is, floor_parts}
use Rattle.cal_days.proofs.gregorian.century.Goals as goal

pub returns-clause-value : goal.returns-clause-value
returns-clause-value c =
    let same : to_z w32 (of_z w32 c.args.year) ≡ c.args.year = omega (arith, signed) in
    let quotient : c.div_euclid.result ≡ floor_div c.args.year 100 = rw same at c.div_euclid.ensures ∙ floor_div-is c.args.year 100 in
    omega (arith, signed, quotient, c.from.ensures, floor_parts c.args.year 100)

pub returns-clause-range : goal.returns-clause-range
returns-clause-range c =
    let fits : FitsSigned w32 c.args.year = search rules in
    let same : to_z w32 (of_z w32 c.args.year) ≡ c.args.year = omega (arith, signed) in
    let quotient : c.div_euclid.result ≡ floor_div c.args.year 100 = rw same at c.div_euclid.ensures ∙ floor_div-is c.args.year 100 in
    let parts = floor_parts c.args.year 100 (omega arith) in
    (omega (arith, signed, fits, quotient, c.from.ensures, parts), omega (arith, signed, fits, quotient, c.from.ensures, parts))
