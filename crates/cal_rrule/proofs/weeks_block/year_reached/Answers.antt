use Rattle.cal_rrule.proofs.WeeksBlockLemmas.{begins-near}
use Rattle.cal_rrule.proofs.weeks_block.year_reached.Goals as goal

pub returns-in-Some : goal.returns-in-Some
returns-in-Some g c =
    let list = (g.C.Calendar.system c.args.calendar.now).list in
    let look = c.args.look.now in
    let found = c.in-Some.ensures in (
      found.0,
      found.1,
      begins-near list look c.in-Some.found c.args.last c.args.years c.requires.look found.0 found.1 c.requires.low look.short
          c.requires.last found.2,
    )
