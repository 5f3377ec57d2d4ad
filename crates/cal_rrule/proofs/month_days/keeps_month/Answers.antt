use Rattle.cal_rrule.specs.Periods.{NoMonths}
use Rattle.cal_rrule.proofs.AskedLemmas.{missing-or}
use Rattle.cal_rrule.proofs.month_days.keeps_month.Goals as goal

pub returns : goal.returns
returns c =
    rw (c.contains.ensures, c.months.ensures)
    (missing-or (NoMonths c.args.asked.now.rule) c.args.asked.now.missing.months _ c.requires.no_months)
