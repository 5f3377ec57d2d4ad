use Rattle.std.proofs.Common.{◌≡◌}
use Rattle.recurrence_sets.specs.Listing.{days_left}
use Rattle.recurrence_sets.specs.Occurrences.{IsOfSome}
use Rattle.cal_holidays.specs.Moving.{IsLeast}
use Rattle.cal_holidays.proofs.RepeatedLemmas.{AreAmong, Passed}
use Rattle.cal_holidays.proofs.first_repeated.first_of.Given as goal

-- the day that was found is the first one to which the occurrences move that are left no more
abbrev pub invariant-items : goal.invariant-items
invariant-items g l =
    let start = l.initial.items in
    let list = (g.C.Calendar.system l.calendar).list in
    let is = IsOfSome (g.S.Periods.has start.periods) in
    (l.items.periods ≡ start.periods) × (l.items.bounds ≡ start.bounds) × AreAmong l.items.rest start.rest
    × IsLeast (Passed list is start.bounds l.years l.moves.days start.rest l.items.rest) l.first l.last l.best

abbrev pub decreases-items : goal.decreases-items
decreases-items g l = days_left l.items.rest
