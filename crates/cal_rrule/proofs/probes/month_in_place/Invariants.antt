use Rattle.std.proofs.Common.{◌≤◌}
use Rattle.cal_types.specs.CalendarList.{month_at}
use Rattle.cal_types.specs.Month.{month_rank}
use Rattle.cal_rrule.proofs.probes.month_in_place.Given as goal

abbrev pub invariant-loop-rank : goal.invariant-loop-rank
invariant-loop-rank g l = l.rank ≤ month_rank (month_at (g.C.Calendar.system l.calendar).list l.fn.year l.fn.place)
