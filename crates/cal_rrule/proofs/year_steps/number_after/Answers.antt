use Rattle.cal_rrule.proofs.WordLemmas.{added-years}
use Rattle.cal_rrule.proofs.year_steps.number_after.Goals as goal

pub returns : goal.returns
returns c = added-years c.args.look.now.year c.from.result c.args.years c.from.ensures c.requires.look c.requires.few
