use Rattle.std.proofs.Common.{arith}
use Rattle.cal_days.proofs.Signed.{signed}
use Rattle.cal_east_asian.proofs.MoonLemmas.{moon-first}
use Rattle.cal_east_asian.proofs.mean_moons.since_moon_0.Goals as goal

pub returns-clause-exact : goal.returns-clause-exact
returns-clause-exact c = omega (arith, signed, moon-first c.args.utc_offset)
