use Rattle.std.proofs.Common.{◌≡◌, pos, ◌-ℤ◌, to_z, of_z, w32, arith}
use Rattle.cal_days.proofs.Signed.{signed}
use Rattle.cal_days.proofs.GregorianLemmas.{gregorian_start-after_march, gregorian_start-bounds, gregorian_start-next}
use Rattle.cal_days.proofs.gregorian.year_start.Goals as goal

pub new-requires : goal.new-requires
new-requires c =
    let before : to_z w32 (of_z w32 (to_z w32 (of_z w32 c.args.year) -ℤ pos 1)) ≡ c.args.year -ℤ pos 1 = omega (arith, signed, c.requires) in
    let start = gregorian_start-after_march c.args.year _ c.march_start.result before c.march_start.ensures in
    (omega (arith, signed, start, gregorian_start-bounds c.args.year, c.requires), omega (arith, signed, start, gregorian_start-bounds c.args.year, c.requires))

pub returns-clause-formula : goal.returns-clause-formula
returns-clause-formula c =
    let before : to_z w32 (of_z w32 (to_z w32 (of_z w32 c.args.year) -ℤ pos 1)) ≡ c.args.year -ℤ pos 1 = omega (arith, signed, c.requires) in
    omega (arith, signed, gregorian_start-after_march c.args.year _ c.march_start.result before c.march_start.ensures)

pub returns-clause-joins : goal.returns-clause-joins
returns-clause-joins c = gregorian_start-next c.args.year
