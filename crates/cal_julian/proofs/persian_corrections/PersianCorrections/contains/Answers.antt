use Rattle.std.proofs.Common.{◌≡◌, ◌∙◌, ap, to_z, of_z, w32, arith}
use Rattle.cal_days.proofs.Signed.{signed}
use Rattle.cal_julian.specs.PersianRule.{is_corrected}
use Rattle.cal_julian.proofs.SearchLemmas.{found-any}
use Rattle.cal_julian.proofs.persian_corrections.PersianCorrections.contains.Goals as goal

pub returns-then-not-is_empty : goal.returns-then-not-is_empty
returns-then-not-is_empty c =
    let corrections = c.args.self.now in
    let kept : to_z w32 (of_z w32 c.args.year) ≡ c.args.year = omega (arith, signed) in
    let search = c.binary_search.ensures in
    let found = found-any corrections.years.now (to_z w32 (of_z w32 c.args.year)) c.binary_search.result corrections.rising search.bound search.position in
    c.is_ok.ensures.value ∙ (found ∙ ap (is_corrected corrections.years.now) kept)
