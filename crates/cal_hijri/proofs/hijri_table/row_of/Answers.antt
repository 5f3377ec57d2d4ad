use Rattle.std.proofs.Common.{◌≡◌, ◌∙◌, sym, pos, ◌+ℤ◌, ◌-ℤ◌, nat_abs, FitsSigned, rules, to_z, of_z, w32, w64, arith}
use Rattle.cal_days.proofs.Signed.{signed_casts}
use Rattle.cal_types.specs.laws.RowPlaces.{row_of-within}
use Rattle.cal_hijri.specs.HijriRows.{years_of}
use Rattle.cal_hijri.specs.TableYears.{number_of}
use Rattle.cal_hijri.proofs.hijri_table.row_of.Goals as goal

pub returns-else-extended_year-first : goal.returns-else-extended_year-first
returns-else-extended_year-first c =
    let first = c.in-Some.first in
    let y = c.args.extended_year in
    let fits : FitsSigned w32 first.extended_year = search rules in
    let place = nat_abs (to_z w64 (of_z w64 (to_z w64 (of_z w64 c.from.result) -ℤ to_z w64 (of_z w64 c.from-else-extended_year-first.result)))) in
    let here : y ≡ first.extended_year +ℤ pos place = omega (arith, signed_casts, fits, c.requires, c.from.ensures, c.from-else-extended_year-first.ensures, c.if-extended_year-first.false) in
    c.row_at-else-extended_year-first.ensures ∙ sym (row_of-within number_of (years_of c.args.rows.now) first place y (sym c.row_at.ensures ∙ c.in-Some.is) here)
