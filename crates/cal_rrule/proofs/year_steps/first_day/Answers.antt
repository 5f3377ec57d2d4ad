use Rattle.std.proofs.Common.{◌≡◌, ◌∙◌, neg_ℤ, ap, sym, subst, ℤ, pos}
use Rattle.cal_days.specs.Day.{IsValidDay, is_valid_day}
use Rattle.cal_days.proofs.RangeLemmas.{is_between-true, true-is_between}
use Rattle.cal_types.specs.CalendarList.{date, day_number}
use Rattle.cal_types.specs.Resolving.{resolve}
use Rattle.cal_types.specs.declared.options.MissingFieldsStrategy.TheVariants as missing
use Rattle.cal_types.specs.declared.options.Overflow.TheVariants.{Reject}
use Rattle.cal_types.proofs.ListLemmas.{day_number-first}
use Rattle.cal_rrule.proofs.ProbeLemmas.{day_bag}
use Rattle.cal_rrule.proofs.WordLemmas.{field-word, held-word}
use Rattle.cal_rrule.proofs.YearStepLemmas.{first-err, first-ok, resolve-first}
use Rattle.cal_rrule.proofs.year_steps.first_day.Goals as goal

pub returns-in-Ok : goal.returns-in-Ok
returns-in-Ok g c =
    let s = g.C.Calendar.system c.args.calendar.now in
    let law = g.met.C.Calendar.lawful c.args.calendar.now in
    let u = g.C.Calendar.date_of c.args.calendar.now c.in-Ok.date in
    let y = c.args.year in
    let same = field-word y c.requires in
    let resolved = c.in-Ok.ensures.resolved
    ∙ ap (λ (z : ℤ). resolve s.list s.year_names (day_bag z 1 1) Reject missing.Reject) same
    ∙ resolve-first s.list s.year_names y law c.requires in
    let found = first-ok u (date y 1 1) (is_valid_day (day_number s.list (date y 1 1))) resolved in
    let first = day_number-first s.list y in
    let day : c.to_i64_date.result ≡ day_number s.list u = c.to_i64_date.ensures.value ∙ c.to_rata_die.ensures in
    let at = day ∙ ap (day_number s.list) found.1 ∙ first in
    let valid = is_between-true (neg_ℤ (pos 365242499)) (pos 365242134) (day_number s.list (date y 1 1)) found.0 in
    let starts = subst IsValidDay first valid in
    (held-word c.to_i64_date.result _ at starts, starts)

pub returns-in-Err : goal.returns-in-Err
returns-in-Err g c =
    let s = g.C.Calendar.system c.args.calendar.now in
    let law = g.met.C.Calendar.lawful c.args.calendar.now in
    let y = c.args.year in
    let same = field-word y c.requires in
    let resolved = c.in-Err.ensures.resolved
    ∙ ap (λ (z : ℤ). resolve s.list s.year_names (day_bag z 1 1) Reject missing.Reject) same
    ∙ resolve-first s.list s.year_names y law c.requires in
    let first = day_number-first s.list y in
    λ valid. first-err c.in-Err.field-0 (date y 1 1) (is_valid_day (day_number s.list (date y 1 1))) resolved
    (true-is_between (neg_ℤ (pos 365242499)) (pos 365242134) (day_number s.list (date y 1 1)) (subst IsValidDay (sym first) valid))
