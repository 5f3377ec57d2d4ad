use Rattle.std.proofs.Common.{pos, neg_ℤ, ◌-ℤ◌, ◌≤ℤ◌, ◌<ℤ◌}
use Rattle.cal_days.specs.Sums.{years_up}
use Rattle.cal_rrule.specs.Looks.{IsYearLook, look_year}
use Rattle.cal_rrule.specs.Stretches.{end_of}
use Rattle.cal_rrule.proofs.near_years.year_ahead_of.Given as goal

abbrev pub invariant-loop-look : goal.invariant-loop-look
invariant-loop-look g l =
    IsYearLook (g.C.Calendar.system l.calendar).list l.look × (l.look.first ≤ℤ neg_ℤ (pos 365242499))
    × (l.day <ℤ end_of (look_year l.look))

abbrev pub decreases-loop-look : goal.decreases-loop-look
decreases-loop-look g l = years_up (l.look.first -ℤ l.day)
