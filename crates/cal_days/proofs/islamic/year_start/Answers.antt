use Rattle.std.proofs.Common.{◌≡◌, ℤ, pos, ◌+ℤ◌, ◌-ℤ◌, ◌*ℤ◌, arith, to_z, of_z, w64}
use Rattle.std.specs.Int.{int_div_euclid}
use Rattle.cal_days.specs.Day.{IsRuleYear}
use Rattle.cal_days.specs.Division.{floor_div}
use Rattle.cal_days.specs.Islamic.{islamic_start}
use Rattle.cal_days.proofs.Signed.{signed}
use Rattle.cal_days.proofs.DivisionLemmas.{floor_parts}
use Rattle.cal_days.proofs.IslamicLemmas.{islamic_start-next}
use Rattle.cal_days.proofs.islamic.year_start.Goals as goal

-- the quotient is that of the rule
quotient : (y from q : ℤ) → IsRuleYear y → from ≡ y → q ≡ int_div_euclid (to_z w64 (of_z w64 (to_z w64 (of_z w64 (pos 11 *ℤ to_z w64 (of_z w64 from))) +ℤ pos 3))) (pos 30) → q ≡ floor_div (pos 11 *ℤ y +ℤ pos 3) 30
unfolding floor_div
quotient y from q rule same e =
    let number : to_z w64 (of_z w64 (to_z w64 (of_z w64 (pos 11 *ℤ to_z w64 (of_z w64 from))) +ℤ pos 3)) ≡ pos 11 *ℤ y +ℤ pos 3 = omega (arith, signed, rule, same) in
    rw number at e

-- and the days before the year follow
days_before : (y from q : ℤ) → IsRuleYear y → from ≡ y → q ≡ floor_div (pos 11 *ℤ y +ℤ pos 3) 30 → to_z w64 (of_z w64 (to_z w64 (of_z w64 (pos 354 *ℤ to_z w64 (of_z w64 (to_z w64 (of_z w64 from) -ℤ pos 1)))) +ℤ to_z w64 (of_z w64 q))) ≡ pos 354 *ℤ (y -ℤ pos 1) +ℤ floor_div (pos 11 *ℤ y +ℤ pos 3) 30
days_before y from q rule same e = omega (arith, signed, e, same, rule, floor_parts (pos 11 *ℤ y +ℤ pos 3) 30)

pub overflow_add-days_before : goal.overflow_add-days_before
overflow_add-days_before c =
    let q = quotient c.args.year c.from-number.result c.div_euclid-leap_days.result c.requires.year (omega (arith, signed, c.from-number.ensures)) c.div_euclid-leap_days.ensures in
    omega (arith, signed, q, floor_parts (pos 11 *ℤ c.args.year +ℤ pos 3) 30)

pub overflow_add-days_before-2 : goal.overflow_add-days_before-2
overflow_add-days_before-2 c =
    let q = quotient c.args.year c.from-number.result c.div_euclid-leap_days.result c.requires.year (omega (arith, signed, c.from-number.ensures)) c.div_euclid-leap_days.ensures in
    let days = days_before c.args.year c.from-number.result c.div_euclid-leap_days.result c.requires.year (omega (arith, signed, c.from-number.ensures)) q in
    omega (arith, signed, c.requires, days, floor_parts (pos 11 *ℤ c.args.year +ℤ pos 3) 30)

pub new-requires : goal.new-requires
new-requires c =
    let q = quotient c.args.year c.from-number.result c.div_euclid-leap_days.result c.requires.year (omega (arith, signed, c.from-number.ensures)) c.div_euclid-leap_days.ensures in
    let days = days_before c.args.year c.from-number.result c.div_euclid-leap_days.result c.requires.year (omega (arith, signed, c.from-number.ensures)) q in
    let parts = floor_parts (pos 11 *ℤ c.args.year +ℤ pos 3) 30 (omega arith) in
    (omega (arith, signed, c.requires, days, parts), omega (arith, signed, c.requires, days, parts))

pub returns-clause-formula : goal.returns-clause-formula
unfolding islamic_start
returns-clause-formula c =
    let q = quotient c.args.year c.from-number.result c.div_euclid-leap_days.result c.requires.year (omega (arith, signed, c.from-number.ensures)) c.div_euclid-leap_days.ensures in
    let days = days_before c.args.year c.from-number.result c.div_euclid-leap_days.result c.requires.year (omega (arith, signed, c.from-number.ensures)) q in
    omega (arith, signed, c.new.ensures, c.requires, days, floor_parts (pos 11 *ℤ c.args.year +ℤ pos 3) 30)

pub returns-clause-joins : goal.returns-clause-joins
returns-clause-joins c = islamic_start-next c.args.epoch c.args.year
