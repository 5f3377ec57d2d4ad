use Rattle.std.proofs.Common.{refl, ap, subst, ◌∙◌}
use Rattle.std.specs.Prelude.{IsTrue}
use Rattle.std.specs.Ordering.{int_eq}
use Rattle.std.specs.Cmp.{int_eq_equiv}
use Rattle.cal_types.specs.declared.options.Overflow.TheVariants.{Constrain}
use Rattle.cal_types.specs.CalendarList.{Date, day_number}
use Rattle.icu_calendar.proofs.SumLemmas.{sum-date, sum-not_refused}
use Rattle.icu_calendar.proofs.laws.sum_with_difference.Goals as goal

pub unreachable-requires : goal.unreachable-requires
unreachable-requires g c =
    let calendar = g.A.AsCalendar.cal_of c.args.first.calendar in
    let s = g.A.Calendar.Calendar.system calendar in
    let t = g.A.Calendar.Calendar.date_of calendar c.args.first.inner in
    let u = g.A.Calendar.Calendar.date_of calendar c.args.second.now.inner in
    sum-not_refused s.list s.year_shift t c.in_ok-between.between Constrain c.in-Err.field-0 u c.in-Err.ensures.sum c.in_ok-between.ensures.until.leads_back

pub returns-clause-same_date : goal.returns-clause-same_date
returns-clause-same_date g c =
    let calendar = g.A.AsCalendar.cal_of c.args.first.calendar in
    let s = g.A.Calendar.Calendar.system calendar in
    let t = g.A.Calendar.Calendar.date_of calendar c.args.first.inner in
    let u = g.A.Calendar.Calendar.date_of calendar c.args.second.now.inner in
    let sum = g.A.Calendar.Calendar.date_of calendar c.in-Ok.sum.inner in
    sum-date s.list s.year_shift t c.in_ok-between.between Constrain sum u c.in-Ok.ensures.sum c.in_ok-between.ensures.until.leads_back

pub returns-clause-equal : goal.returns-clause-equal
returns-clause-equal g c =
    let law = g.met.A.Calendar.Calendar in
    let calendar = g.A.AsCalendar.cal_of c.args.first.calendar in
    let other = g.B.AsCalendar.cal_of c.args.second.now.calendar in
    let list = (g.A.Calendar.Calendar.system calendar).list in
    let sum = c.in-Ok.sum in
    let second = c.args.second.now in
    let u = g.A.Calendar.Calendar.date_of calendar second.inner in
    let back = law.compatible_back calendar other (c.in_ok-between.ensures.compatible.0 refl) in
    let second_here = law.shared other calendar second.inner back second.belongs in
    let sum_here = subst (λ k. IsTrue (g.A.Calendar.Calendar.belongs (g.A.AsCalendar.cal_of k) sum.inner)) c.in-Ok.ensures.calendar sum.belongs in
    law.equal_days calendar sum.inner second.inner sum_here second_here
    ∙ (ap (λ (v : Date). int_eq (day_number list v) (day_number list u)) (returns-clause-same_date g c) ∙ int_eq_equiv.refl (day_number list u))
