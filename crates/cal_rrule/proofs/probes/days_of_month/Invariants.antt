use Rattle.std.proofs.Common.{◌≤◌, ◌+◌}
use Rattle.cal_types.specs.CalendarList.{month_length}
use Rattle.cal_rrule.proofs.probes.days_of_month.Given as goal

abbrev pub invariant-loop-fewer : goal.invariant-loop-fewer
invariant-loop-fewer g l = month_length (g.C.Calendar.system l.calendar).list l.fn.year l.fn.place + l.fewer ≤ 31
