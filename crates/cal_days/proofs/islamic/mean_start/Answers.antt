use Rattle.std.proofs.Common.{◌≡◌, pos, ◌-ℤ◌, ◌*ℤ◌, to_z, of_z, w64, arith}
use Rattle.cal_days.specs.Islamic.{islamic_mean_start}
use Rattle.cal_days.proofs.Signed.{signed}
use Rattle.cal_days.proofs.IslamicLemmas.{mean_start-next}
use Rattle.cal_days.proofs.islamic.mean_start.Goals as goal

pub returns-clause-formula : goal.returns-clause-formula
unfolding islamic_mean_start
returns-clause-formula c =
    let scaled : to_z w64 (of_z w64 (to_z w64 (of_z w64 (to_z w64 (of_z w64 c.from.result) -ℤ pos 1)) *ℤ pos 10631)) ≡ (c.args.year -ℤ pos 1) *ℤ pos 10631 = omega (arith, signed, c.requires) in
    let result = rw scaled at c.new.ensures in
    omega (arith, signed, result, scaled)

pub returns-clause-joins : goal.returns-clause-joins
returns-clause-joins c = mean_start-next c.args.year

pub new-requires : goal.new-requires
new-requires c =
    let scaled : to_z w64 (of_z w64 (to_z w64 (of_z w64 (to_z w64 (of_z w64 c.from.result) -ℤ pos 1)) *ℤ pos 10631)) ≡ (c.args.year -ℤ pos 1) *ℤ pos 10631 = omega (arith, signed, c.requires) in
    (omega (arith, signed, scaled, c.requires), omega (arith, signed, scaled, c.requires))
