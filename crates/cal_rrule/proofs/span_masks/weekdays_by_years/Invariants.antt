use Rattle.std.proofs.Common.{◌≡◌, ◌-ℤ◌, ◌≤ℤ◌, pos, neg_ℤ}
use Rattle.cal_days.specs.Sums.{years_up}
use Rattle.cal_rrule.specs.Looks.{IsYearLook, look_year}
use Rattle.cal_rrule.specs.Masks.{MarksBefore}
use Rattle.cal_rrule.specs.Periods.{IsOfWeekdays}
use Rattle.cal_rrule.specs.Stretches.{end_of}
use Rattle.cal_rrule.proofs.span_masks.weekdays_by_years.Given as goal

abbrev pub invariant-years : goal.invariant-years
invariant-years g l =
    let list = (g.C.Calendar.system l.calendar).list in
    let end = end_of (look_year l.look) in
    IsYearLook list l.look × (l.end ≡ end) × (neg_ℤ (pos 365252499) ≤ℤ l.look.first)
    × MarksBefore l.days l.span.from end (IsOfWeekdays list l.asked.rule)

abbrev pub decreases-years : goal.decreases-years
decreases-years g l = years_up (l.span.to -ℤ end_of (look_year l.look))
