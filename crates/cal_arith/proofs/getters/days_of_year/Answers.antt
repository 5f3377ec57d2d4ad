use Rattle.cal_arith.proofs.YearLemmas.{year_length-last}
use Rattle.cal_arith.proofs.getters.days_of_year.Goals as goal

pub returns : goal.returns
returns g c = year_length-last (g.C.YearShapes.years c.args.cal.now).list (g.met.C.YearShapes.lawful c.args.cal.now) ((g.C.YearShapes.years c.args.cal.now).extended c.args.year) c.months_in_provided_year-month.result c.days_in_provided_month-day.result c.day_in_year.result c.months_in_provided_year-month.ensures c.days_in_provided_month-day.ensures c.day_in_year.ensures
