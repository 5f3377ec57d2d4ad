use Rattle.cal_rrule.proofs.daily.kept_until.Goals as goal

pub returns : goal.returns
returns c = λ list t is at. c.kept_in_block.ensures list t is at
