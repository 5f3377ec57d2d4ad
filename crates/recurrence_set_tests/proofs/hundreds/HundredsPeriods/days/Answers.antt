use Rattle.std.proofs.Common.{subst, arith, ℤ}
use Rattle.cal_days.proofs.Signed.{signed}
use Rattle.std.specs.Prelude.{IsTrue, ◌↔◌}
use Rattle.recurrence_sets.specs.PeriodBits.{has_day}
use Rattle.recurrence_set_tests.specs.Hundreds.{IsOneOfThree}
use Rattle.recurrence_set_tests.proofs.hundreds.HundredsPeriods.days.Goals as goal

pub returns-clause-days : goal.returns-clause-days
returns-clause-days c n valid =
    subst (λ (f : ℤ). IsTrue (has_day c.three_days.result n) ↔ IsOneOfThree f n) (omega (arith, signed, c.from.ensures, c.args.self.now.valid, c.ranges.period.fits)) (c.three_days.ensures n)
