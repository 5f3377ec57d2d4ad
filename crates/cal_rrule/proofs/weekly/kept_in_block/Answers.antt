use Rattle.std.proofs.Common.{◌≡◌, ◌*◌, pos, ◌+ℤ◌, ◌∙◌}
use Rattle.cal_rrule.specs.Blocks.{start_of, weekly_periods}
use Rattle.cal_rrule.proofs.WeeklyLemmas.{block-kept}
use Rattle.cal_rrule.proofs.WordLemmas.{from-end-word, from-word}
use Rattle.cal_rrule.proofs.weekly.kept_in_block.Goals as goal

pub returns : goal.returns
returns g c = λ w block is from n.
    let list = (g.C.Calendar.system c.args.calendar.now).list in
    let a = c.args.asked.now in
    let t = start_of a in
    let same = from-word c.args.from c.requires.low c.requires.high in
    let count = rw c.interval-interval.ensures at c.periods_of_block-count.ensures.value in
    let few = rw c.interval-interval.ensures at c.periods_of_block-count.ensures.few in
    let weeks = rw c.interval-interval.ensures at c.weeks_of_block.ensures.value in
    let marks = rw same at c.weekly_days-days.ensures in
    let begins : c.weekly_days-days.result.first ≡ c.args.from = marks.first in
    let end : c.new.result ≡ c.args.from +ℤ pos 448 = c.new.ensures ∙ from-end-word c.args.from c.requires.low c.requires.high in
    let cut = rw (begins, end) at c.keep_days.ensures.days in
    block-kept list a.rule t c.requires.weekly a.day w c.requires.is_asked.on_day is block c.periods_of_block-count.result
    c.weeks_of_block.result c.args.from c.weekly_days-days.result c.kept_in_weeks-kept.result c.keep_days.new.self from count weeks few
    marks c.kept_in_weeks-kept.ensures.first c.keep_days.ensures.first
    (λ are. c.kept_in_weeks-kept.ensures.kept list t (block * weekly_periods a.rule.interval) are) cut c.keep_days.ensures.row n

pub weekly_days-days-requires-clause-nearby : goal.weekly_days-days-requires-clause-nearby
weekly_days-days-requires-clause-nearby g c = c.requires.nearby
