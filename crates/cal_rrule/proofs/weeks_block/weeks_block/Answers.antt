use Rattle.std.proofs.Common.{subst, sym, arith}
use Rattle.cal_rule.specs.declared.frequency.Frequency.{Frequency}
use Rattle.cal_rrule.specs.Blocks.{IsOfBlocks, start_of}
use Rattle.cal_rrule.proofs.WeeklyStartLemmas.{week-finds}
use Rattle.cal_rrule.proofs.WeeksBlockLemmas.{first-field, week-field, weeks-ended, weeks-period, year-finds, years-few}
use Rattle.cal_rrule.proofs.WordLemmas.{field-most, nearer, week-near}
use Rattle.cal_rrule.proofs.YearlyLemmas.{few-periods}
use Rattle.cal_rrule.proofs.weeks_block.weeks_block.Goals as goal

pub returns-in-None-clause-days : goal.returns-in-None-clause-days
returns-in-None-clause-days g c = λ later order n valid early of.
    let list = (g.C.Calendar.system c.args.calendar.now).list in
    let law = g.met.C.Calendar.lawful c.args.calendar.now in
    let a = c.args.asked.now in
    let week = week-finds a.rule.week_start a.day in
    let own = year-finds list law week.0 in
    let kept = subst (λ (f : Frequency). IsOfBlocks f list a.rule (start_of a) later n) c.requires.yearly of in
    weeks-ended list law a.rule (start_of a) c.requires.yearly c.requires.weeks a.day own.0 week.0 c.requires.is_asked.on_day week.1
    own.1 c.args.period c.years_between-years.result later c.args.last n
    (rw c.interval.ensures at c.years_between-years.ensures) (c.in-None.ensures week.0 own.0 week.1 own.1) order early kept

pub days_of_weeks-days-requires-clause-near : goal.days_of_weeks-days-requires-clause-near
days_of_weeks-days-requires-clause-near g c =
    let list = (g.C.Calendar.system c.args.calendar.now).list in
    let law = g.met.C.Calendar.lawful c.args.calendar.now in
    let a = c.args.asked.now in
    let week = week-finds a.rule.week_start a.day in
    let own = year-finds list law week.0 in
    let found = c.in-Some.ensures week.0 own.0 week.1 own.1 in
    nearer c.in-Some.year.first found.2

pub year_of_period-requires-clause-few : goal.year_of_period-requires-clause-few
year_of_period-requires-clause-few g c =
    rw c.years_between-years.ensures (years-few c.args.period c.interval.result (omega arith) (omega arith))

pub returns-in-Some-clause-few : goal.returns-in-Some-clause-few
returns-in-Some-clause-few g c =
    let list = (g.C.Calendar.system c.args.calendar.now).list in
    let law = g.met.C.Calendar.lawful c.args.calendar.now in
    let near = c.requires.nearby in
    let a = c.args.asked.now in
    let week = week-finds a.rule.week_start a.day in
    let own = year-finds list law week.0 in
    let found = c.in-Some.ensures week.0 own.0 week.1 own.1 in
    let valid = c.requires.is_asked.is_valid in
    let least = week-field list law near week.0
    (week-near week.0 a.day week.1.1 week.1.2 valid) in
    let most = first-field list law near c.in-Some.year found.0 found.2 in
    few-periods c.args.period a.rule.interval c.years_between-years.result own.0 c.in-Some.year.year a.rule.every
    (rw c.interval.ensures at c.years_between-years.ensures) found.1 least (field-most c.in-Some.year.year most)

pub returns-in-Some-clause-days : goal.returns-in-Some-clause-days
returns-in-Some-clause-days g c = λ n valid.
    let list = (g.C.Calendar.system c.args.calendar.now).list in
    let law = g.met.C.Calendar.lawful c.args.calendar.now in
    let a = c.args.asked.now in
    let week = week-finds a.rule.week_start a.day in
    let own = year-finds list law week.0 in
    let found = c.in-Some.ensures week.0 own.0 week.1 own.1 in
    let set = weeks-period list law a.rule (start_of a) c.requires.yearly c.requires.weeks a.day own.0 week.0 c.requires.is_asked.on_day week.1
    own.1 c.args.period c.years_between-years.result c.in-Some.year.year c.days_of_weeks-days.result found.1
    (rw c.interval.ensures at c.years_between-years.ensures) c.days_of_weeks-days.ensures.row c.days_of_weeks-days.ensures.days in
    let kept = c.keep_positions.ensures.kept list (start_of a) c.args.period set n in (
      λ h. subst (λ (f : Frequency). IsOfBlocks f list a.rule (start_of a) c.args.period n) (sym c.requires.yearly) (kept.0 h),
      λ of. kept.1 (subst (λ (f : Frequency). IsOfBlocks f list a.rule (start_of a) c.args.period n) c.requires.yearly of),
    )

pub days_of_weeks-days-requires-clause-year : goal.days_of_weeks-days-requires-clause-year
days_of_weeks-days-requires-clause-year g c =
    let list = (g.C.Calendar.system c.args.calendar.now).list in
    let law = g.met.C.Calendar.lawful c.args.calendar.now in
    let a = c.args.asked.now in
    let week = week-finds a.rule.week_start a.day in
    let own = year-finds list law week.0 in
    (c.in-Some.ensures week.0 own.0 week.1 own.1).0
