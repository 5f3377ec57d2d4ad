use Rattle.cal_rrule.specs.Looks.{IsDailyDay, look_stretch}
use Rattle.std.proofs.Common.{ℕ}
use Rattle.cal_rrule.specs.Occurrences.{IsKept}
use Rattle.cal_rrule.specs.Stretches.{end_of}
use Rattle.cal_rrule.proofs.DailyLemmas.{daily-kept, daily-months, kept-daily}
use Rattle.cal_rrule.proofs.MonthDayLemmas.{marks-as}
use Rattle.cal_rrule.proofs.daily.kept_in_month.Goals as goal

pub returns-clause-days : goal.returns-clause-days
returns-clause-days c = λ list t is at.
    let a = c.args.asked.now in
    let look = c.args.look.now in
    marks-as c.days_in_month.result look.first (end_of (look_stretch look)) (IsDailyDay list a.rule a.day)
    (λ n. (k : ℕ) × IsKept list a.rule t k n)
    (c.days_in_month.ensures.days list is (daily-months a.rule c.requires.daily))
    (λ n. (
      daily-kept list a.rule t a.missing c.requires.missing c.requires.daily a.day at n,
      λ p. kept-daily list a.rule t a.missing c.requires.missing c.requires.daily a.day at n p.0 p.1,
    ))
