use Rattle.std.proofs.Common.{◌≡◌, false, Some, subst, subst₂}
use Rattle.cal_rule.specs.Sets.{has_weekday}
use Rattle.cal_rule.specs.declared.weekday_places.WeekdayPlaces.{WeekdayPlaces}
use Rattle.cal_rrule.specs.Masks.{Marks}
use Rattle.cal_rrule.specs.Periods.{IsOfWeekdays}
use Rattle.cal_rrule.proofs.WordLemmas.{from-word}
use Rattle.cal_rrule.proofs.weekly_days.rule_weekdays.Goals as goal

pub plain_weekdays-requires-clause-plain : goal.plain_weekdays-requires-clause-plain
plain_weekdays-requires-clause-plain g c = λ day place.
    subst (λ (set : WeekdayPlaces). has_weekday set (record { day = day; ordinal = Some place }) ≡ false) c.weekdays.ensures
    (c.is_plain.ensures.0 c.if-is_plain.true day place)

pub returns-then-is_plain : goal.returns-then-is_plain
returns-then-is_plain g c =
    let same = from-word c.args.from c.requires.low c.requires.high in
    rw same at
    (c.plain_weekdays.ensures (g.C.Calendar.system c.args.calendar.now).list (g.met.C.Calendar.lawful c.args.calendar.now))

pub returns : goal.returns
returns g c =
    let list = (g.C.Calendar.system c.args.calendar.now).list in
    let same = from-word c.args.from c.requires.low c.requires.high in
    let span = rw same at c.span_of_weeks.ensures in
    subst₂ (λ a z. Marks c.days_of_weekdays.result a z (IsOfWeekdays list c.args.asked.now.rule)) span.0 span.1 c.days_of_weekdays.ensures
