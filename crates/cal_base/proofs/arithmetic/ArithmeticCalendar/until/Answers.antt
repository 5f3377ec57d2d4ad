use Rattle.cal_base.proofs.arithmetic.ArithmeticCalendar.until.Goals as goal

pub returns : goal.returns
returns g c = rw (c.own_date.ensures.same, c.own_date-2.ensures.same) at c.until.ensures
