use Rattle.std.proofs.Common.{◌≡◌, ◌∙◌, sym, pos, ◌+ℤ◌, ◌-ℤ◌, nat_abs, FitsSigned, rules, to_z, of_z, w32, arith}
use Rattle.cal_days.proofs.Signed.{signed_casts}
use Rattle.cal_types.specs.laws.RowPlaces.{row_of-within}
use Rattle.cal_east_asian.specs.EastAsianRows.{years_of}
use Rattle.cal_east_asian.specs.TableYears.{number_of}
use Rattle.cal_east_asian.proofs.chosen_years.row_of.Goals as goal

pub returns-else-related_iso-first : goal.returns-else-related_iso-first
returns-else-related_iso-first c =
    let first = c.in-Some.first in
    let y = c.args.related_iso in
    let fits : FitsSigned w32 first.related_iso = search rules in
    let place = nat_abs (to_z w32 (of_z w32 (to_z w32 (of_z w32 y) -ℤ to_z w32 (of_z w32 first.related_iso)))) in
    let here : y ≡ first.related_iso +ℤ pos place = omega (arith, signed_casts, fits, c.requires, c.if-related_iso-first.false) in
    c.row_at-else-related_iso-first.ensures ∙ sym (row_of-within number_of (years_of c.args.rows.now) first place y (sym c.row_at.ensures ∙ c.in-Some.is) here)
