use Rattle.std.proofs.Common.{◌≡◌, ◌∙◌, arith, to_z, of_z, w64, pos, neg_ℤ, ◌*ℤ◌, ◌+ℤ◌}
use Rattle.cal_days.specs.Day.{IsBetween}
use Rattle.cal_days.specs.Division.{floor_div}
use Rattle.cal_days.proofs.DivisionLemmas.{floor_parts}
use Rattle.cal_days.proofs.Signed.{signed}
use Rattle.cal_hijri.proofs.type_i_years.leap_days_before.Goals as goal

quotient : (c : goal.After-div_euclid) → c.div_euclid.result ≡ floor_div (pos 11 *ℤ c.args.year +ℤ pos 4) 30
quotient c = omega (arith, signed, c.from.ensures, c.div_euclid.ensures, c.requires, floor_parts (pos 11 *ℤ c.args.year +ℤ pos 4) 30)

bound : (c : goal.After-div_euclid) → IsBetween (neg_ℤ (pos 3000000)) (pos 3000000) c.div_euclid.result
bound c =
    let parts = floor_parts (pos 11 *ℤ c.args.year +ℤ pos 4) 30 in
    (omega (arith, signed, quotient c, c.requires, parts), omega (arith, signed, quotient c, c.requires, parts))

pub returns-clause-value : goal.returns-clause-value
returns-clause-value c =
    let kept : to_z w64 (of_z w64 c.div_euclid.result) ≡ c.div_euclid.result = omega (arith, signed, bound c) in
    kept ∙ quotient c

pub returns-clause-bound : goal.returns-clause-bound
returns-clause-bound c = (omega (arith, signed, bound c), omega (arith, signed, bound c))
