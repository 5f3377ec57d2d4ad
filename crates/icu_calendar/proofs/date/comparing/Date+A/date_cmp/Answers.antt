use Rattle.std.proofs.Common.{◌≡◌, ℤ, Bool, if◌then◌else◌, Some, None, sym, subst, ◌∙◌}
use Rattle.std.specs.Ordering.{int_cmp}
use Rattle.cal_types.specs.CalendarList.{day_number}
use Rattle.icu_calendar.proofs.date.comparing.Date+A.date_cmp.Goals as goal

pub returns-then-is_compatible-clause-days : goal.returns-then-is_compatible-clause-days
returns-then-is_compatible-clause-days g c =
    let law = g.met.A.Calendar.Calendar in
    let first = c.args.self.now in
    let second = c.args.other.now in
    let calendar = g.A.AsCalendar.cal_of first.calendar in
    let other = g.B.AsCalendar.cal_of second.calendar in
    let day = day_number (g.A.Calendar.Calendar.system calendar).list (g.A.Calendar.Calendar.date_of calendar first.inner) in
    let other_day = day_number (g.A.Calendar.Calendar.system other).list (g.A.Calendar.Calendar.date_of other second.inner) in
    let compatible = sym c.is_compatible.ensures ∙ c.if-is_compatible.true in
    let back = law.compatible_back calendar other compatible in
    let second_here = law.shared other calendar second.inner back second.belongs in
    let ordered = c.partial_cmp.ensures ∙ law.ordered_days calendar first.inner second.inner first.belongs second_here in
    let by_days = subst (λ (n : ℤ). c.partial_cmp.result ≡ Some (int_cmp day n)) (law.shared_day other calendar second.inner back second.belongs) ordered in
    subst (λ (b : Bool). c.partial_cmp.result ≡ (if b then Some (int_cmp day other_day) else None)) (sym compatible) by_days
