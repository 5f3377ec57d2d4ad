use Rattle.std.proofs.Common.{◌≡◌, ◌∙◌, ap, arith, to_z, of_z, w32}
use Rattle.cal_days.specs.Gregorian.{gregorian_start}
use Rattle.cal_days.proofs.GregorianLemmas.{gregorian_start-bounds}
use Rattle.cal_days.proofs.Signed.{signed}
use Rattle.cal_east_asian.proofs.east_asian_traditional_year.january_19.Goals as goal

pub returns-clause-bound : goal.returns-clause-bound
returns-clause-bound c =
    let y = c.args.related_iso in
    let same : to_z w32 (of_z w32 y) ≡ y = omega (arith, signed, c.requires) in
    let is : c.to_i64_date.result ≡ gregorian_start y = c.to_i64_date.ensures.value ∙ (c.year_start.ensures.formula ∙ ap gregorian_start same) in
    (omega (arith, signed, is, gregorian_start-bounds y, c.requires), omega (arith, signed, is, gregorian_start-bounds y, c.requires))
