use Rattle.recurrence_sets.proofs.NearLemmas.{passed-found}
use Rattle.recurrence_sets.proofs.near_looks.begun_from.Goals as goal

pub returns-clause-passed : goal.returns-clause-passed
returns-clause-passed g c =
    let periods = c.args.periods.now in
    let found = c.in_ok-found.found in
    let day = c.in_ok-found.day in
    let is = c.next_with_day.ensures.day (found, day) c.in_ok-found.was in
    passed-found (g.S.Periods.has periods) c.args.first c.args.last c.requires (g.met.S.Periods.apart periods) found day is.0 is.1
    c.number_by.result c.number_by.ensures
