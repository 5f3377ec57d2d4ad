use Rattle.std.proofs.Common.{◌∙◌, sym}
use Rattle.cal_rrule.proofs.MonthBlockLemmas.{ended-behind}
use Rattle.cal_rrule.proofs.WordLemmas.{before-month}
use Rattle.cal_rrule.proofs.monthly.block_of_month.Goals as goal

pub returns-then-is_before : goal.returns-then-is_before
returns-then-is_before g c = λ t k is after.
    let list = (g.C.Calendar.system c.args.calendar.now).list in
    let law = g.met.C.Calendar.lawful c.args.calendar.now in
    let look = c.args.look.now in
    let a = c.args.asked.now in
    let behind = before-month c.to_i64_date-next.result c.args.last look.first c.to_i64_date-next.ensures.value c.requires.last look.near
    (sym c.is_before.ensures ∙ c.if-is_before.true) in
    ended-behind list law a.rule c.requires.monthly t a.month is.in_year is.in_place k c.args.last look c.requires.look after behind

pub returns : goal.returns
returns g c = λ t k is after. λ n valid. c.kept_of_period.ensures t k (sym is.on_day_of_month) after n

pub kept_of_period-requires-clause-nearby : goal.kept_of_period-requires-clause-nearby
kept_of_period-requires-clause-nearby g c = c.requires.nearby
