use Rattle.std.proofs.Common.{sym}
use Rattle.cal_types.proofs.ResolvingLemmas.{place_in_year-ok}
use Rattle.cal_arith.specs.FieldNames.{month_name}
use Rattle.cal_arith.proofs.fields.date_in_year.Goals as goal

pub date_in_month-requires-clause-place : goal.date_in_month-requires-clause-place
date_in_month-requires-clause-place g c =
    let y = g.C.YearShapes.years c.args.cal.now in
    place_in_year-ok y.list (g.met.C.YearShapes.lawful c.args.cal.now) (y.extended c.args.year) c.args.overflow (month_name c.args.month) c.args.ordinal_month c.in-Ok.place (sym c.in-Ok.ensures)
