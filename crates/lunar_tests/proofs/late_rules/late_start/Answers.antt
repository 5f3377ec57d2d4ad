use Rattle.std.proofs.Common.{◌≡◌, pos, ◌-ℤ◌, ◌*ℤ◌, to_z, of_z, w64, arith}
use Rattle.cal_days.specs.Islamic.{islamic_mean_start}
use Rattle.cal_days.proofs.IslamicLemmas.{mean_start-bounds}
use Rattle.cal_days.proofs.Signed.{signed}
use Rattle.lunar_tests.proofs.late_rules.late_start.Goals as goal

pub returns-clause-day : goal.returns-clause-day
unfolding islamic_mean_start
returns-clause-day c =
    let scaled : to_z w64 (of_z w64 (to_z w64 (of_z w64 (to_z w64 (of_z w64 c.from.result) -ℤ pos 1)) *ℤ pos 10631)) ≡ (c.args.year -ℤ pos 1) *ℤ pos 10631 = omega (arith, signed, c.requires) in
    rw scaled (omega (arith, signed, c.requires))

pub returns-clause-near : goal.returns-clause-near
returns-clause-near c =
    let day = returns-clause-day c in
    let mean = mean_start-bounds c.args.year in
    (omega (arith, signed, day, mean, c.requires), omega (arith, signed, day, mean, c.requires))
