use Rattle.std.proofs.Common.{◌≡◌, ◌∙◌, ◌+ℤ◌, ◌-ℤ◌, FitsSigned, to_z, of_z, w32, rules, arith}
use Rattle.cal_days.specs.Division.{floor_div}
use Rattle.cal_days.specs.Gregorian.{leap_days_through}
use Rattle.cal_days.proofs.Signed.{signed}
use Rattle.cal_days.proofs.DivisionLemmas.{floor_div-is, floor_parts}
use Rattle.cal_days.proofs.GregorianLemmas.{leap_days_through-bounds}
use Rattle.cal_days.proofs.gregorian.leap_days_through.Goals as goal

-- the three quotients, which come back from their bits as they were
sum : (c : goal.After-div_euclid-3) → to_z w32 (of_z w32 (to_z w32 (of_z w32 (to_z w32 (of_z w32 c.div_euclid.result) -ℤ to_z w32 (of_z w32 c.div_euclid-2.result))) +ℤ to_z w32 (of_z w32 c.div_euclid-3.result))) ≡ leap_days_through c.args.year
unfolding leap_days_through
sum c =
    let same : to_z w32 (of_z w32 c.args.year) ≡ c.args.year = omega (arith, signed) in
    let fourths : c.div_euclid.result ≡ floor_div c.args.year 4 = rw same at c.div_euclid.ensures ∙ floor_div-is c.args.year 4 in
    let centuries : c.div_euclid-2.result ≡ floor_div c.args.year 100 = rw same at c.div_euclid-2.ensures ∙ floor_div-is c.args.year 100 in
    let cycles : c.div_euclid-3.result ≡ floor_div c.args.year 400 = rw same at c.div_euclid-3.ensures ∙ floor_div-is c.args.year 400 in
    omega (arith, signed, fourths, centuries, cycles, floor_parts c.args.year 4, floor_parts c.args.year 100, floor_parts c.args.year 400)

pub returns-clause-value : goal.returns-clause-value
returns-clause-value c = sum c

pub returns-clause-range : goal.returns-clause-range
returns-clause-range c =
    let fits : FitsSigned w32 c.args.year = search rules in
    (omega (arith, signed, sum c, leap_days_through-bounds c.args.year), omega (arith, signed, sum c, leap_days_through-bounds c.args.year))

pub overflow_add-result : goal.overflow_add-result
overflow_add-result c =
    let fits : FitsSigned w32 c.args.year = search rules in
    let same : to_z w32 (of_z w32 c.args.year) ≡ c.args.year = omega (arith, signed) in
    let fourths : c.div_euclid.result ≡ floor_div c.args.year 4 = rw same at c.div_euclid.ensures ∙ floor_div-is c.args.year 4 in
    let centuries : c.div_euclid-2.result ≡ floor_div c.args.year 100 = rw same at c.div_euclid-2.ensures ∙ floor_div-is c.args.year 100 in
    let cycles : c.div_euclid-3.result ≡ floor_div c.args.year 400 = rw same at c.div_euclid-3.ensures ∙ floor_div-is c.args.year 400 in
    omega (arith, signed, fits, fourths, centuries, cycles, floor_parts c.args.year 4, floor_parts c.args.year 100, floor_parts c.args.year 400)
