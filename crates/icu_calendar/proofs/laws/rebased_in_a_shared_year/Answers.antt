use Rattle.std.proofs.Common.{◌∙◌}
use Rattle.icu_calendar.proofs.RebaseLemmas.{not-moved, stays}
use Rattle.icu_calendar.proofs.laws.rebased_in_a_shared_year.Goals as goal

pub returns-clause-stays : goal.returns-clause-stays
returns-clause-stays g c same =
    let date = c.args.date.now in
    let calendar = g.A.AsCalendar.cal_of date.calendar in
    let other = g.B.AsCalendar.cal_of c.args.calendar in
    let here = g.A.Calendar.Calendar.date_of calendar date.inner in
    let there = g.B.Calendar.Calendar.date_of other c.rebase.result.date.inner in
    c.rebase.ensures.rebased.moves
    ∙ not-moved here there
    (stays (g.A.Calendar.Calendar.system calendar).list (g.B.Calendar.Calendar.system other).list here same there
    (g.met.A.Calendar.Calendar.dated calendar date.inner date.belongs).date c.rebase.ensures.rebased.on)
