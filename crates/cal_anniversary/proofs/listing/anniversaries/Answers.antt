use Rattle.cal_types.specs.MonthParts.{month_parts}
use Rattle.cal_anniversary.proofs.FallingOnLemmas.{anniversaries-meant}
use Rattle.cal_anniversary.proofs.listing.anniversaries.Goals as goal

pub returns-clause-meant : goal.returns-clause-meant
returns-clause-meant g c =
    rw (c.new.ensures.calendar, c.new.ensures.asked, c.new.ensures.rest)
    (anniversaries-meant (g.C.Calendar.system c.args.calendar).list (g.met.C.Calendar.lawful c.args.calendar) c.args.leaping (month_parts c.args.month) c.args.day c.args.window.first c.args.window.last)
