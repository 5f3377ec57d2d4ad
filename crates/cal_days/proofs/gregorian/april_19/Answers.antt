use Rattle.std.proofs.Common.{◌≡◌, FitsSigned, to_z, of_z, w32, rules, arith}
use Rattle.cal_days.specs.Gregorian.{leap_days_through}
use Rattle.cal_days.proofs.Signed.{signed}
use Rattle.cal_days.proofs.GregorianLemmas.{first_of_march-formula}
use Rattle.cal_days.proofs.gregorian.april_19.Goals as goal

pub returns-clause-value : goal.returns-clause-value
returns-clause-value c =
    let same : to_z w32 (of_z w32 c.args.year) ≡ c.args.year = omega (arith, signed) in
    let leap_days : c.leap_days_through.result ≡ leap_days_through c.args.year = rw same at c.leap_days_through.ensures.value in
    omega (arith, signed, c.from.ensures, c.from-2.ensures, c.leap_days_through.ensures, leap_days, first_of_march-formula c.args.year)

pub returns-clause-range : goal.returns-clause-range
returns-clause-range c =
    let fits : FitsSigned w32 c.args.year = search rules in
    (omega (arith, signed, fits, c.from.ensures, c.from-2.ensures, c.leap_days_through.ensures.range), omega (arith, signed, fits, c.from.ensures, c.from-2.ensures, c.leap_days_through.ensures.range))
