use Rattle.std.proofs.Common.{◌≡◌, ℕ, ◌+◌, ◌*◌, ◌%◌, to_z, of_z, w32, ap, arith}
use Rattle.cal_days.specs.Easter.{julian_epact, metonic_year}
use Rattle.cal_days.proofs.Signed.{signed}
use Rattle.cal_days.proofs.julian.epact.Goals as goal

pub returns-clause-value : goal.returns-clause-value
unfolding julian_epact
returns-clause-value c =
    let same : to_z w32 (of_z w32 c.args.year) ≡ c.args.year = omega (arith, signed) in
    let metonic : c.year_in_metonic_cycle.result ≡ metonic_year c.args.year = rw same at c.year_in_metonic_cycle.ensures.value in
    ap (λ (m : ℕ). (14 + 11 * m) % 30) metonic
