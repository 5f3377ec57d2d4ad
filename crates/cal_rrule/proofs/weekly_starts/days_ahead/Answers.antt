use Rattle.std.proofs.Common.{arith}
use Rattle.cal_days.proofs.Signed.{signed_casts}
use Rattle.cal_rrule.proofs.WeeklyStartLemmas.{ahead-none, ahead-some, quotient-few}
use Rattle.cal_rrule.proofs.weekly_starts.days_ahead.Goals as goal

pub returns-then-block-weeks : goal.returns-then-block-weeks
returns-then-block-weeks c =
    let many = rw (c.from-weeks.ensures, c.from-block.ensures) at c.if-block-weeks.true in
    ahead-none c.args.block c.args.interval c.weeks_to_next.result c.weeks_to_next.ensures.value c.weeks_to_next.ensures.some many

pub returns : goal.returns
returns c =
    let few = rw (c.from-weeks.ensures, c.from-block.ensures) at c.if-block-weeks.false in
    let product = quotient-few 110000000 c.weeks_to_next.result c.args.block few in
    ahead-some c.args.block c.args.interval c.weeks_to_next.result _ c.weeks_to_next.ensures.value c.weeks_to_next.ensures.some few
    (rw (c.from-weeks.ensures, c.from-block.ensures) (omega (arith, signed_casts, product)))
