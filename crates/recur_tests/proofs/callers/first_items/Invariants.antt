use Rattle.std.proofs.Common.{◌≡◌, ◌++◌, ◌-◌, length}
use Rattle.cal_recur.specs.Listing.{occurrences, occurrences_left}
use Rattle.recur_tests.proofs.callers.first_items.Given as goal

-- the list is the items that were given, and those that are left
abbrev pub invariant-given : goal.invariant-given
invariant-given g l = record {
  list :
      occurrences (g.C.Calendar.system l.fn.calendar) (g.C.Calendar.date_of l.fn.calendar l.fn.start) l.fn.rule l.fn.window.first l.fn.window.last
      ≡ l.given.items ++ occurrences_left (g.C.Calendar.system l.fn.calendar) (g.C.Calendar.date_of l.fn.calendar l.fn.start) l.fn.rule l.items.rest;
  calendar : l.items.calendar ≡ l.fn.calendar;
  start : l.items.start ≡ l.fn.start;
  rule : l.items.rule ≡ l.fn.rule;
}

abbrev pub decreases-given : goal.decreases-given
decreases-given g l = l.count - length l.given.items
