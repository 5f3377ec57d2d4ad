use Rattle.cal_types.specs.CalendarList.{date, IsDate}
use Rattle.cal_arith.proofs.FieldLemmas.{up_to-true}
use Rattle.cal_arith.proofs.placing.placed_day.Goals as goal

pub returns-then-is_up_to-clause-belongs : goal.returns-then-is_up_to-clause-belongs
returns-then-is_up_to-clause-belongs g c =
    let s = c.args.cal.now in let t = date ((g.C.YearShapes.years s).extended c.args.year) c.args.month c.args.day in
    let dated : IsDate (g.C.YearShapes.years s).list t = record { place = c.requires.month.place; day = up_to-true c.is_up_to.result c.args.day c.days_in_provided_month-last.result _ c.is_up_to.ensures c.if-is_up_to.true c.days_in_provided_month-last.ensures } in
    record { year = c.requires.month.year; date = dated; valid = g.met.C.YearShapes.covered s t c.requires.range dated }
