use Rattle.cal_base.proofs.arithmetic.ArithmeticCalendar.until_counted.Goals as goal

pub returns-clause-until : goal.returns-clause-until
returns-clause-until g c = rw (c.own_date.ensures.same, c.own_date-2.ensures.same) at c.until_counted.ensures.until
