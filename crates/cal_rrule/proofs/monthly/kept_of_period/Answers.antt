use Rattle.cal_rrule.proofs.monthly.kept_of_period.Goals as goal

pub returns : goal.returns
returns g c = λ t k same after.
    c.keep_positions.ensures.kept (g.C.Calendar.system c.args.calendar.now).list t k (c.days_of_period-days.ensures t k same after)
