use Rattle.std.proofs.Common.{◌≡◌, ◌∙◌, ap, arith, to_z, of_z, w32, w64, FitsSigned, rules, refl}
use Rattle.cal_days.proofs.Signed.{signed}
use Rattle.cal_hijri.specs.HijriRows.{row_year}
use Rattle.cal_hijri.specs.RowStarts.{nearest_rule_year, start_after}
use Rattle.cal_hijri.specs.laws.SameYears.{same_parts}
use Rattle.cal_hijri.proofs.hijri_row.HijriRow.year.Goals as goal

pub returns : goal.returns
returns c =
    let row = c.args.self in
    let near = c.nearest_rule_year-extended_year in
    let given : FitsSigned w32 row.extended_year = search rules in
    let own : to_z w32 (of_z w32 row.extended_year) ≡ row.extended_year = omega (arith, signed, given) in
    let number : near.result ≡ nearest_rule_year row.extended_year = near.ensures.value ∙ ap nearest_rule_year own in
    let kept : to_z w32 (of_z w32 near.result) ≡ near.result = omega (arith, signed, near.ensures.range) in
    let fits : FitsSigned w64 c.start_after.result = search rules in
    let day : to_z w64 (of_z w64 c.start_after.result) ≡ c.start_after.result = omega (arith, signed, fits) in
    same_parts _ (row_year row) (kept ∙ number) (day ∙ (c.start_after.ensures.value ∙ ap (λ y. start_after y row.start_offset) (kept ∙ number))) refl
