use Rattle.std.proofs.Common.{◌≡◌, IsTrue, Ok, Err, ap, subst, ◌∙◌}
use Rattle.cal_types.specs.Bag.{bag_of}
use Rattle.cal_types.specs.declared.options.Overflow.TheVariants.{Reject}
use Rattle.cal_types.specs.declared.options.MissingFieldsStrategy.TheVariants as missing
use Rattle.cal_types.specs.Resolving.{Resolved, resolve}
use Rattle.cal_types.specs.CalendarList.{Date}
use Rattle.icu_calendar.proofs.FieldsLemmas.{fields-name, fields-not_refused}
use Rattle.icu_calendar.proofs.OrderLemmas.{same_date-equal}
use Rattle.icu_calendar.proofs.laws.date_of_its_fields.Goals as goal

pub returns-clause-same_date : goal.returns-clause-same_date
returns-clause-same_date g c =
    let law = g.met.A.Calendar.Calendar in
    let date = c.args.date.now in
    let calendar = g.A.AsCalendar.cal_of date.calendar in
    let s = g.A.Calendar.Calendar.system calendar in
    let t = g.A.Calendar.Calendar.date_of calendar date.inner in
    let named = c.in-Ok.named in
    let bag = bag_of c.fields_of.result in
    let dated = law.dated calendar date.inner date.belongs in
    let found = subst (λ k. ◌≡◌ {A = Resolved Date} (Ok (g.A.Calendar.Calendar.date_of (g.A.AsCalendar.cal_of k) named.inner)) (resolve (g.A.Calendar.Calendar.system (g.A.AsCalendar.cal_of k)).list (g.A.Calendar.Calendar.system (g.A.AsCalendar.cal_of k)).year_names bag Reject missing.Reject)) c.calendar_wrapper.ensures c.in-Ok.ensures.resolved in
    fields-name s.list (law.lawful calendar) s.year_names t dated (law.ranged calendar t dated) bag c.fields_of.ensures (g.A.Calendar.Calendar.date_of calendar named.inner) found

pub returns-clause-equal : goal.returns-clause-equal
returns-clause-equal g c =
    let date = c.args.date.now in
    let calendar = g.A.AsCalendar.cal_of date.calendar in
    let list = (g.A.Calendar.Calendar.system calendar).list in
    let named = c.in-Ok.named in
    let here = subst (λ k. IsTrue (g.A.Calendar.Calendar.belongs (g.A.AsCalendar.cal_of k) named.inner)) (ap (λ r. r.0.now) c.in-Ok.ensures.calendar ∙ c.calendar_wrapper.ensures) named.belongs in
    same_date-equal list (g.A.Calendar.Calendar.date_of calendar named.inner) (g.A.Calendar.Calendar.date_of calendar date.inner) _
    (g.met.A.Calendar.Calendar.equal_days calendar named.inner date.inner here date.belongs)
    (returns-clause-same_date g c)

pub unreachable-requires : goal.unreachable-requires
unreachable-requires g c =
    let law = g.met.A.Calendar.Calendar in
    let date = c.args.date.now in
    let calendar = g.A.AsCalendar.cal_of date.calendar in
    let s = g.A.Calendar.Calendar.system calendar in
    let t = g.A.Calendar.Calendar.date_of calendar date.inner in
    let bag = bag_of c.fields_of.result in
    let dated = law.dated calendar date.inner date.belongs in
    let refused = subst (λ k. ◌≡◌ {A = Resolved Date} (Err c.in-Err.field-0) (resolve (g.A.Calendar.Calendar.system (g.A.AsCalendar.cal_of k)).list (g.A.Calendar.Calendar.system (g.A.AsCalendar.cal_of k)).year_names bag Reject missing.Reject)) c.calendar_wrapper.ensures c.in-Err.ensures.resolved in
    fields-not_refused s.list (law.lawful calendar) s.year_names t dated (law.ranged calendar t dated) bag c.fields_of.ensures c.in-Err.field-0 refused
