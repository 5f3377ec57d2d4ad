use Rattle.std.proofs.Common.{◌≡◌, ◌+◌, ◌*◌, ◌≤◌}
use Rattle.cal_types.specs.CalendarList.{days_before}
use Rattle.cal_rrule.proofs.near_years.days_of_year.Given as goal

abbrev pub invariant-loop-before : goal.invariant-loop-before
invariant-loop-before g l =
    (l.days ≡ days_before (g.C.Calendar.system l.calendar).list l.fn.year (l.before + 1)) × (l.days ≤ 31 * l.before)
