use Rattle.std.proofs.Common.{◌∙◌, ap, sym, ℤ}
use Rattle.cal_types.specs.CalendarList.{date, is_date}
use Rattle.cal_rrule.proofs.ProbeLemmas.{thirteen, twelve}
use Rattle.cal_rrule.proofs.WordLemmas.{field-word}
use Rattle.cal_rrule.proofs.probes.months_of_year.Goals as goal

pub returns-then-has_day : goal.returns-then-has_day
returns-then-has_day g c =
    let list = (g.C.Calendar.system c.args.calendar.now).list in
    let same = field-word c.args.year (c.requires.low, c.requires.high) in
    thirteen list (g.met.C.Calendar.lawful c.args.calendar.now) c.args.year
    (ap (λ (y : ℤ). is_date list (date y 13 1)) (sym same) ∙ sym c.has_day.ensures ∙ c.if-has_day.true)

pub returns : goal.returns
returns g c =
    let list = (g.C.Calendar.system c.args.calendar.now).list in
    let same = field-word c.args.year (c.requires.low, c.requires.high) in
    twelve list (g.met.C.Calendar.lawful c.args.calendar.now) c.args.year
    (ap (λ (y : ℤ). is_date list (date y 13 1)) (sym same) ∙ sym c.has_day.ensures ∙ c.if-has_day.false)
