use Rattle.std.proofs.Common.{◌≡◌, ◌∙◌, ◌*◌, ◌+ℤ◌, pos, ℤ, sym, subst₂}
use Rattle.cal_types.specs.CalendarList.{start_of_year}
use Rattle.cal_rrule.specs.Blocks.{start_of}
use Rattle.cal_rrule.specs.Masks.{Marks}
use Rattle.cal_rrule.specs.YearWeeks.{IsNamedAbout}
use Rattle.cal_rrule.proofs.WeeksBlockLemmas.{weeks-named}
use Rattle.cal_rrule.proofs.WordLemmas.{about-week, held-from, held-to, span-from, span-to, week-word, weeks-fit, weeks-low}
use Rattle.cal_rrule.proofs.weeks_block.days_of_weeks.Goals as goal

pub returns-clause-days : goal.returns-clause-days
returns-clause-days g c =
    let list = (g.C.Calendar.system c.args.calendar.now).list in
    let law = g.met.C.Calendar.lawful c.args.calendar.now in
    let a = c.args.asked.now in
    let t = start_of a in
    let year = c.args.year.now in
    let is = c.requires.is_asked in
    let weeks = c.weeks_of_year-weeks in
    let own = week-word weeks.result.first weeks.result.near in
    let span = rw own at c.span_of_weeks-span.ensures in
    let first = weeks.result.first in
    let to = first +ℤ pos (7 * weeks.result.count) in
    let are = rw c.week_start.ensures at (weeks.ensures.weeks list c.requires.year) in
    let low = weeks-low (start_of_year list year.year) year.first first weeks.ensures.low c.requires.year.is_start in
    let few = weeks-fit weeks.result.count weeks.result.few in
    let row = c.span_of_weeks-span.result in
    let marks = subst₂ (λ (f e : ℤ). Marks c.named_about-days.result f e (IsNamedAbout list a.rule t year.year)) span.0 span.1
    (c.named_about-days.ensures t is) in
    let from : c.new.result ≡ first = c.new.ensures ∙ span-from row.from row.to row.low row.order row.high ∙ span.0 in
    let end : c.new-2.result ≡ to = c.new-2.ensures ∙ span-to row.from row.to row.low row.order row.high ∙ span.1 in
    let cut = rw (from, end) at c.keep_days.ensures.days in
    weeks-named list law a.rule t a.day year.year first weeks.result.count is.on_day are low a.missing is.are_missing
    c.named_about-days.result c.keep_weeks.new.days c.keep_start_weekday.new.days c.keep_days.new.self few marks
    c.keep_weeks.ensures.first c.keep_start_weekday.ensures.first
    (c.keep_weeks.ensures.days list year.year are) c.keep_start_weekday.ensures.days cut c.keep_days.ensures.row

pub returns-clause-row : goal.returns-clause-row
returns-clause-row g c = λ n has. rw (sym c.keep_days.ensures.first) at (c.keep_days.ensures.row n has)

pub keep_weeks-requires : goal.keep_weeks-requires
keep_weeks-requires g c =
    let weeks = c.weeks_of_year-weeks.result in
    let own = week-word weeks.first weeks.near in
    record {
      first = (c.named_about-days.ensures (start_of c.args.asked.now) c.requires.is_asked).first ∙ c.span_of_weeks-span.ensures.0 ∙ own;
    }

pub keep_start_weekday-requires-clause-first : goal.keep_start_weekday-requires-clause-first
keep_start_weekday-requires-clause-first g c =
    let weeks = c.weeks_of_year-weeks.result in
    let own = week-word weeks.first weeks.near in
    c.keep_weeks.ensures.first ∙ (c.named_about-days.ensures (start_of c.args.asked.now) c.requires.is_asked).first
    ∙ c.span_of_weeks-span.ensures.0 ∙ own

pub keep_start_weekday-requires-clause-near : goal.keep_start_weekday-requires-clause-near
keep_start_weekday-requires-clause-near g c =
    let weeks = c.weeks_of_year-weeks in
    about-week weeks.result.first c.args.year.now.first weeks.ensures.low weeks.ensures.high c.requires.near

pub named_about-days-requires-clause-nearby : goal.named_about-days-requires-clause-nearby
named_about-days-requires-clause-nearby g c = c.requires.nearby

pub new-requires : goal.new-requires
new-requires g c = let span = c.span_of_weeks-span.result in held-from span.from span.to span.low span.order span.high

pub new-requires-2 : goal.new-requires-2
new-requires-2 g c = let span = c.span_of_weeks-span.result in held-to span.from span.to span.low span.order span.high
