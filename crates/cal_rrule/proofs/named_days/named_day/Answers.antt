use Rattle.cal_rrule.proofs.named_days.named_day.Goals as goal

pub returns-in-FromFront : goal.returns-in-FromFront
returns-in-FromFront c = rw c.in-FromFront.is c.named_from_front.ensures

pub returns-in-FromBack : goal.returns-in-FromBack
returns-in-FromBack c = rw c.in-FromBack.is c.named_from_back.ensures
