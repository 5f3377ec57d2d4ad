use Rattle.recurrence_sets.specs.Occurrences.{IsOfSome}
use Rattle.cal_rrule.proofs.SetDayLemmas.{none-before}
use Rattle.cal_rrule.proofs.set_days.list_days.Goals as goal

pub resume-requires : goal.resume-requires
resume-requires g c =
    none-before (IsOfSome (g.S.Periods.has c.args.periods)) c.args.bounds c.args.window.first
    (c.requires.late c.in-None.is)
