use Rattle.std.proofs.Common.{sym, ◌∙◌}
use Rattle.icu_calendar.proofs.OrderLemmas.{equal-same_date, same_date-equal}
use Rattle.icu_calendar.proofs.date.comparing.Date+A.same_date.Goals as goal

pub returns-then-is_compatible-clause-date : goal.returns-then-is_compatible-clause-date
returns-then-is_compatible-clause-date g c =
    let law = g.met.A.Calendar.Calendar in
    let first = c.args.self.now in
    let second = c.args.other.now in
    let calendar = g.A.AsCalendar.cal_of first.calendar in
    let other = g.B.AsCalendar.cal_of second.calendar in
    let list = (g.A.Calendar.Calendar.system calendar).list in
    let t = g.A.Calendar.Calendar.date_of calendar first.inner in
    let u = g.A.Calendar.Calendar.date_of calendar second.inner in
    let compatible = sym c.is_compatible.ensures ∙ c.if-is_compatible.true in
    let second_here = law.shared other calendar second.inner (law.compatible_back calendar other compatible) second.belongs in
    let days = c.eq.ensures ∙ law.equal_days calendar first.inner second.inner first.belongs second_here in (
      λ e. (compatible, equal-same_date list t u c.eq.result days (law.dated calendar first.inner first.belongs).date (law.dated calendar second.inner second_here).date e),
      λ h. same_date-equal list t u c.eq.result days h.1,
    )
