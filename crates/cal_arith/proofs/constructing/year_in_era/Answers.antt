use Rattle.std.proofs.Common.{◌≡◌, to_z, of_z, w32, refl, subst, sym, arith}
use Rattle.cal_days.specs.Day.{IsCoveredYear}
use Rattle.cal_days.proofs.Signed.{signed}
use Rattle.cal_types.proofs.EraLemmas.{near_era-covered}
use Rattle.cal_arith.proofs.FieldLemmas.{era_read-ok}
use Rattle.cal_arith.proofs.WordLemmas.{word, covered-rule}
use Rattle.cal_arith.proofs.constructing.year_in_era.Goals as goal

pub returns-in-Ok-clause-range : goal.returns-in-Ok-clause-range
returns-in-Ok-clause-range g c =
    let same : to_z w32 (of_z w32 c.args.year) ≡ c.args.year = omega (arith, signed) in
    let near = g.met.C.DateFieldsResolver.era_near c.args.cal.now c.as_bytes.result.now (to_z w32 (of_z w32 c.args.year)) c.in-Ok.year (omega (arith, signed, c.requires), omega (arith, signed, c.requires)) (era_read-ok _ c.in-Ok.year c.in-Ok.ensures) in
    let covered = near_era-covered c.in-Ok.year near in
    subst IsCoveredYear (sym (word _ _ refl (covered-rule _ covered))) covered
