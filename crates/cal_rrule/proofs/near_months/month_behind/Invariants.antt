use Rattle.std.proofs.Common.{pos, ◌-ℤ◌, ◌≤ℤ◌}
use Rattle.cal_days.specs.Sums.{years_up}
use Rattle.cal_rrule.specs.Looks.{IsMonthLook}
use Rattle.cal_rrule.proofs.near_months.month_behind.Given as goal

abbrev pub invariant-loop-look : goal.invariant-loop-look
invariant-loop-look g l =
    IsMonthLook (g.C.Calendar.system l.calendar).list l.look × (pos 365242000 ≤ℤ l.look.first) × (l.look.first ≤ℤ l.day)

abbrev pub decreases-loop-look : goal.decreases-loop-look
decreases-loop-look g l = years_up (l.day -ℤ l.look.first)
