use Rattle.std.proofs.Common.{rules, ◌≡◌, ◌∙◌, arith, FitsSigned, w32, to_z, of_z}
use Rattle.cal_days.proofs.Signed.{signed}
use Rattle.cal_anniversary.proofs.ListingLemmas.{years-of_window}
use Rattle.cal_anniversary.proofs.window_years.years_of.Goals as goal

pub returns : goal.returns
returns g c =
    let s = c.args.calendar.now in
    let laws = g.met.C.Calendar in
    let fits : FitsSigned w32 c.extended_year.result = search rules in
    let fits_last : FitsSigned w32 c.extended_year-2.result = search rules in
    let first : to_z w32 (of_z w32 c.extended_year.result) ≡ c.extended_year.result = omega (arith, signed) in
    let last : to_z w32 (of_z w32 c.extended_year-2.result) ≡ c.extended_year-2.result = omega (arith, signed) in
    years-of_window (g.C.Calendar.system s).list (laws.lawful s) c.args.window _ _ _ _ _ _ c.from_rata_die-first.ensures.on c.from_rata_die-last.ensures.on c.first.ensures c.last.ensures (laws.ranged s _ (laws.dated s _ c.from_rata_die-first.ensures.belongs)) (laws.ranged s _ (laws.dated s _ c.from_rata_die-last.ensures.belongs)) (first ∙ c.extended_year.ensures) (last ∙ c.extended_year-2.ensures)
