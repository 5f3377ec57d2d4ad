use Rattle.std.proofs.Common.{◌≡◌, pos, ◌-ℤ◌, arith, to_z, of_z, w64}
use Rattle.cal_days.specs.Division.{floor_div}
use Rattle.cal_days.specs.Julian.{julian_start}
use Rattle.cal_days.proofs.Signed.{signed}
use Rattle.cal_days.proofs.DivisionLemmas.{floor_parts}
use Rattle.cal_days.proofs.JulianLemmas.{julian_start-next}
use Rattle.cal_days.proofs.julian.year_start.Goals as goal

-- the quotient is that of the years before this one
fourth : (c : goal.After-div_euclid) → c.div_euclid.result ≡ floor_div (c.args.year -ℤ pos 1) 4
unfolding floor_div
fourth c =
    let before : to_z w64 (of_z w64 (to_z w64 (of_z w64 c.from-before.result) -ℤ pos 1)) ≡ c.args.year -ℤ pos 1 = omega (arith, signed) in
    rw before at c.div_euclid.ensures

pub overflow_add-before-2 : goal.overflow_add-before-2
overflow_add-before-2 c = omega (arith, signed, fourth c, floor_parts (c.args.year -ℤ pos 1) 4)

pub new-requires : goal.new-requires
new-requires c = (omega (arith, signed, fourth c, floor_parts (c.args.year -ℤ pos 1) 4), omega (arith, signed, fourth c, floor_parts (c.args.year -ℤ pos 1) 4))

pub returns-clause-formula : goal.returns-clause-formula
unfolding julian_start floor_div
returns-clause-formula c =
    let before : to_z w64 (of_z w64 (to_z w64 (of_z w64 c.from-before.result) -ℤ pos 1)) ≡ c.args.year -ℤ pos 1 = omega (arith, signed) in
    let fourth = rw before at c.div_euclid.ensures in
    omega (arith, signed, c.new.ensures, fourth)

pub returns-clause-joins : goal.returns-clause-joins
returns-clause-joins c = julian_start-next c.args.year

pub overflow_add-before : goal.overflow_add-before
overflow_add-before c = omega (arith, signed, fourth c, floor_parts (c.args.year -ℤ pos 1) 4)
