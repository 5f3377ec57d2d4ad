use Rattle.std.proofs.Common.{◌≡◌, pos, ◌+ℤ◌, ◌*ℤ◌, arith, to_z, of_z, w64}
use Rattle.cal_days.specs.Division.{floor_div}
use Rattle.cal_days.specs.Persian.{persian_start}
use Rattle.cal_days.proofs.Signed.{signed}
use Rattle.cal_days.proofs.DivisionLemmas.{floor_parts}
use Rattle.cal_days.proofs.PersianLemmas.{persian_start-next}
use Rattle.cal_days.proofs.persian.year_start.Goals as goal

-- the quotient is that of the rule
quotient : (c : goal.After-div_euclid-leap_days) → c.div_euclid-leap_days.result ≡ floor_div (pos 8 *ℤ c.args.year +ℤ pos 21) 33
unfolding floor_div
quotient c =
    let number : to_z w64 (of_z w64 (to_z w64 (of_z w64 (pos 8 *ℤ to_z w64 (of_z w64 c.from-number.result))) +ℤ pos 21)) ≡ pos 8 *ℤ c.args.year +ℤ pos 21 = omega (arith, signed) in
    rw number at c.div_euclid-leap_days.ensures

pub overflow_add-number-3 : goal.overflow_add-number-3
overflow_add-number-3 c = omega (arith, signed, quotient c, floor_parts (pos 8 *ℤ c.args.year +ℤ pos 21) 33)

pub new-requires : goal.new-requires
new-requires c = (omega (arith, signed, quotient c, floor_parts (pos 8 *ℤ c.args.year +ℤ pos 21) 33), omega (arith, signed, quotient c, floor_parts (pos 8 *ℤ c.args.year +ℤ pos 21) 33))

pub returns-clause-formula : goal.returns-clause-formula
unfolding persian_start floor_div
returns-clause-formula c =
    let number : to_z w64 (of_z w64 (to_z w64 (of_z w64 (pos 8 *ℤ to_z w64 (of_z w64 c.from-number.result))) +ℤ pos 21)) ≡ pos 8 *ℤ c.args.year +ℤ pos 21 = omega (arith, signed) in
    let quotient = rw number at c.div_euclid-leap_days.ensures in
    omega (arith, signed, c.new.ensures, quotient)

pub returns-clause-joins : goal.returns-clause-joins
returns-clause-joins c = persian_start-next c.args.year
