use Rattle.std.proofs.Common.{◌≡◌, ◌∙◌, ◌↔◌, ℕ, ◌*◌, ℤ, pos, ◌+ℤ◌, IsTrue, length, rules, sym, ap, subst}
use Rattle.cal_anniversary.specs.YearlyDays.{IsOfYear}
use Rattle.cal_days.specs.Day.{IsValidDay}
use Rattle.cal_types.specs.CalendarList.{month_at}
use Rattle.cal_types.specs.declared.leaping.Leaping.TheVariants.{Exact}
use Rattle.cal_rule.specs.declared.frequency.Frequency.{Frequency}
use Rattle.cal_rrule.specs.Blocks.{IsOfBlocks, start_of}
use Rattle.cal_rrule.proofs.PlainYearLemmas.{alone-day, plain-kept}
use Rattle.cal_rrule.proofs.YearlyLemmas.{few-periods}
use Rattle.cal_rrule.proofs.WordLemmas.{field-back, field-most, field-word}
use Rattle.cal_rrule.proofs.plain_years.plain_block.Goals as goal
use Rattle.recurrence_sets.specs.PeriodBits.{has_day}

pub returns-clause-days : goal.returns-clause-days
returns-clause-days g c = λ n valid.
    let list = (g.C.Calendar.system c.args.calendar.now).list in
    let law = g.met.C.Calendar.lawful c.args.calendar.now in
    let a = c.args.asked.now in
    let t = start_of a in
    let is : IsTrue c.is_plain.result = search rules in
    let years = c.years_between.ensures ∙ ap (λ (e : ℕ). c.args.block * e) c.interval.ensures in
    let at = c.in_ok-year.ensures.0 ∙ ap (λ (k : ℕ). t.year +ℤ pos k) years in
    let year = c.in_ok-year.year in
    let same = field-word year c.in_ok-year.ensures.1 in
    let of = subst (λ (y : ℤ). IsOfYear list Exact (month_at list t.year t.month) t.day y c.in_ok-day.day) same
    c.in_ok-day.ensures in
    let kept = plain-kept list law a.rule (c.is_plain.ensures is) t c.requires.yearly c.args.block year
    c.in_ok-day.day at of n in
    let set = c.alone.result in
    let long : length set.words ≡ 7 = search rules in
    let alone = alone-day set c.in_ok-day.day long c.alone.ensures.first c.alone.ensures.days n in
    subst (λ (f : Frequency). IsTrue (has_day c.alone.result n) ↔ IsOfBlocks f list a.rule t c.args.block n)
    (sym c.requires.yearly) (λ has. kept.0 (alone.0 has), λ named. alone.1 (kept.1 named))

pub returns-clause-few : goal.returns-clause-few
returns-clause-few g c =
    let a = c.args.asked.now in
    let t = start_of a in
    let asked = c.requires.is_asked in
    let years = c.years_between.ensures ∙ ap (λ (e : ℕ). c.args.block * e) c.interval.ensures in
    let valid = subst IsValidDay asked.on_day asked.is_valid in
    let least = g.met.C.Calendar.ranged c.args.calendar.now t (record { date = asked.is_date; valid = valid }) in
    few-periods c.args.block a.rule.interval c.years_between.result t.year c.in_ok-year.year a.rule.every years
    c.in_ok-year.ensures.0 least (field-most c.in_ok-year.year c.in_ok-year.ensures.1)

pub day_in_year-requires-clause-year : goal.day_in_year-requires-clause-year
day_in_year-requires-clause-year g c = field-back c.in_ok-year.year c.in_ok-year.ensures.1
