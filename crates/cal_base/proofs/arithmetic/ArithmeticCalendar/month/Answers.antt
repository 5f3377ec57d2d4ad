use Rattle.cal_base.proofs.OwnAnswers.{has_month}
use Rattle.cal_base.proofs.arithmetic.ArithmeticCalendar.month.Goals as goal

pub shown_month-status-requires-clause-year : goal.shown_month-status-requires-clause-year
shown_month-status-requires-clause-year g c = rw c.year-year.ensures c.own_date.ensures.year

pub shown_month-status-requires-clause-place : goal.shown_month-status-requires-clause-place
shown_month-status-requires-clause-place g c =
    rw (c.year-year.ensures, c.month-place.ensures, c.own_date.ensures.same, c.own_date-2.ensures.same)
    (has_month (g.C.YearShapes.years c.args.self.now.0) c.args.date.now.parts (rw c.own_date.ensures.same at c.own_date.ensures.belongs))
