use Rattle.std.proofs.Common.{◌≡◌, ◌-ℤ◌, ◌≤ℤ◌, pos, neg_ℤ}
use Rattle.cal_days.specs.Sums.{years_up}
use Rattle.cal_rrule.specs.Looks.{IsMonthLook, look_stretch}
use Rattle.cal_rrule.specs.Masks.{MarksBefore}
use Rattle.cal_rrule.specs.Periods.{IsOfWeekdays}
use Rattle.cal_rrule.specs.Stretches.{end_of}
use Rattle.cal_rrule.proofs.span_masks.weekdays_by_months.Given as goal

abbrev pub invariant-months : goal.invariant-months
invariant-months g l =
    let list = (g.C.Calendar.system l.calendar).list in
    let end = end_of (look_stretch l.look) in
    IsMonthLook list l.look × (l.end ≡ end) × (neg_ℤ (pos 365252499) ≤ℤ l.look.first)
    × MarksBefore l.days l.span.from end (IsOfWeekdays list l.asked.rule)

abbrev pub decreases-months : goal.decreases-months
decreases-months g l = years_up (l.span.to -ℤ end_of (look_stretch l.look))
