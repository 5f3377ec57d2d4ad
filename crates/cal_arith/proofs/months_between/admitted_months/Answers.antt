use Rattle.std.proofs.Common.{sym}
use Rattle.cal_types.specs.declared.options.Overflow.TheVariants.{Constrain}
use Rattle.cal_types.specs.CalendarList.{month_at, month_number}
use Rattle.cal_types.proofs.ListLemmas.{spot-place}
use Rattle.cal_types.proofs.DifferenceLemmas.{months_surpass-none, toward-zero}
use Rattle.cal_arith.specs.Dates.{date_of}
use Rattle.cal_arith.specs.Directions.{is_backward}
use Rattle.cal_arith.proofs.DifferenceSteps.{reaches-months}
use Rattle.cal_arith.proofs.months_between.admitted_months.Goals as goal

pub returns-clause-within : goal.returns-clause-within
returns-clause-within g c =
    months_surpass-none (g.C.YearShapes.years c.args.cal.now).list (is_backward c.args.direction) (date_of (g.C.YearShapes.years c.args.cal.now) c.args.from) (date_of (g.C.YearShapes.years c.args.cal.now) c.args.to) c.args.years c.args.start.month ((g.C.YearShapes.years c.args.cal.now).extended c.args.start.year) c.requires.start.number c.requires.start.place c.requires.within

pub returns-clause-reaches : goal.returns-clause-reaches
returns-clause-reaches g c =
    let list = (g.C.YearShapes.years c.args.cal.now).list in let y = (g.C.YearShapes.years c.args.cal.now).extended c.args.start.year in
    reaches-months list (date_of (g.C.YearShapes.years c.args.cal.now) c.args.from) (is_backward c.args.direction) c.args.years 0 y c.args.start.month y c.args.start.month c.requires.start.number c.requires.start.place
    (spot-place list y (month_at list ((g.C.YearShapes.years c.args.cal.now).extended c.args.from.year) c.args.from.month) Constrain c.args.start.month c.requires.start.place)
    (sym (toward-zero (is_backward c.args.direction) (month_number list y c.args.start.month)))
