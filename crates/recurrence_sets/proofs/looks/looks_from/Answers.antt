use Rattle.recurrence_sets.proofs.LookLemmas.{look-of}
use Rattle.recurrence_sets.proofs.looks.looks_from.Goals as goal

pub days_behind-following-requires-clause-seen : goal.days_behind-following-requires-clause-seen
days_behind-following-requires-clause-seen g c =
    look-of (g.S.Periods.has c.args.periods.now) c.args.period c.args.last c.days_counted-current.result c.days_counted-current.ensures.days c.days_counted-current.ensures.few

pub returns-clause-looks : goal.returns-clause-looks
returns-clause-looks g c = record {
  current = look-of (g.S.Periods.has c.args.periods.now) c.args.period c.args.last c.days_counted-current.result c.days_counted-current.ensures.days c.days_counted-current.ensures.few;
  following = c.days_behind-following.ensures.look;
}
