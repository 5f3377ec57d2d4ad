use Rattle.std.proofs.Common.{◌≡◌, ℤ, pos, neg_ℤ, ◌-ℤ◌, ◌*ℤ◌, to_z, of_z, w64, arith}
use Rattle.cal_days.specs.Day.{IsBetween, IsRuleYear}
use Rattle.cal_days.specs.Division.{floor_div}
use Rattle.cal_days.specs.Hebrew.{months_before}
use Rattle.cal_days.proofs.Signed.{signed}
use Rattle.cal_hebrew.proofs.hebrew_months.months_before_year.Goals as goal

pub returns-clause-value : goal.returns-clause-value
unfolding months_before floor_div
returns-clause-value c =
    let arg : to_z w64 (of_z w64 (to_z w64 (of_z w64 (pos 235 *ℤ to_z w64 (of_z w64 c.from.result))) -ℤ pos 234)) ≡ pos 235 *ℤ c.args.year -ℤ pos 234 = omega (arith, signed, c.from.ensures, c.requires) in
    let quotient = rw arg at c.div_euclid.ensures in
    omega (arith, signed, quotient, c.requires)

-- a year from -8000000 to 8000000 has fewer than 100000000 months before it, or after it
within : (year months : ℤ) → IsRuleYear year → months ≡ months_before year → IsBetween (neg_ℤ (pos 100000000)) (pos 100000000) months
unfolding months_before floor_div
within year months rule value = (omega (arith, signed, rule, value), omega (arith, signed, rule, value))

pub returns-clause-bound : goal.returns-clause-bound
returns-clause-bound c = within c.args.year _ c.requires (returns-clause-value c)
