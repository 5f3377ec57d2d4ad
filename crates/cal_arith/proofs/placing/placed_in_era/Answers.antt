use Rattle.std.proofs.Common.{◌≡◌, ℕ, ℤ, Option, Result, Ok, Err, to_z, of_z, w32, sym, ap, ◌∙◌, arith}
use Rattle.cal_days.proofs.Signed.{signed}
use Rattle.cal_errors.specs.RangeParts.{RangeParts, DateFault, date_fault}
use Rattle.cal_errors.specs.declared.errors.DateError.{DateError}
use Rattle.cal_types.specs.CalendarList.{CalendarList, Date}
use Rattle.cal_types.specs.Placing.{date_or_fault, placed_in_era, placed_in_year}
use Rattle.cal_arith.specs.FieldNames.{era_read}
use Rattle.cal_arith.proofs.FieldLemmas.{era_read-ok}
use Rattle.cal_arith.proofs.placing.placed_in_era.Goals as goal

-- what a place in the extended year that an era reads as gives
placed_as : (list : CalendarList) (reads : ℤ → Option ℤ) (s n t y : ℤ) (i d : ℕ) (a : Result Date RangeParts) → s ≡ n → Ok y ≡ era_read (reads s) → t ≡ y → a ≡ placed_in_year list t i d → date_or_fault a ≡ placed_in_era list (reads n) i d
placed_as list reads s n t y i d a era known same placed =
    ap date_or_fault (placed ∙ ap (λ (x : ℤ). placed_in_year list x i d) same) ∙ sym (ap (λ (r : Option ℤ). placed_in_era list r i d) (ap reads (sym era) ∙ era_read-ok (reads s) y known))

pub returns-in-Ok-placed_in_extended_year-clause-placed : goal.returns-in-Ok-placed_in_extended_year-clause-placed
returns-in-Ok-placed_in_extended_year-clause-placed g c =
    let list = (g.C.YearShapes.years c.args.cal.now).list in
    let reads = (g.C.DateFieldsResolver.names c.args.cal.now).reads c.args.era.now in
    let era : to_z w32 (of_z w32 c.args.year) ≡ c.args.year = omega (arith, signed) in
    let same : to_z w32 (of_z w32 c.in-Ok.number) ≡ c.in-Ok.number = omega (arith, signed, c.in-Ok.ensures.range) in
    placed_as list reads _ c.args.year _ c.in-Ok.number c.args.month c.args.day _ era c.in-Ok.ensures.year same c.in-Ok-placed_in_extended_year.ensures.placed

abbrev refused : DateError → Result Date DateFault
refused e = Err (date_fault e)

pub returns-in-Err-placed_in_extended_year-clause-placed : goal.returns-in-Err-placed_in_extended_year-clause-placed
returns-in-Err-placed_in_extended_year-clause-placed g c =
    let list = (g.C.YearShapes.years c.args.cal.now).list in
    let reads = (g.C.DateFieldsResolver.names c.args.cal.now).reads c.args.era.now in
    let era : to_z w32 (of_z w32 c.args.year) ≡ c.args.year = omega (arith, signed) in
    let same : to_z w32 (of_z w32 c.in-Ok.number) ≡ c.in-Ok.number = omega (arith, signed, c.in-Ok.ensures.range) in
    ap refused c.from.ensures ∙ placed_as list reads _ c.args.year _ c.in-Ok.number c.args.month c.args.day _ era c.in-Ok.ensures.year same c.in-Err-placed_in_extended_year.ensures.placed
