use Rattle.std.proofs.Common.{◌-◌}
use Rattle.cal_rrule.proofs.MonthStepLemmas.{reached-far, reached-next, reached-none, reached-zero}
use Rattle.cal_rrule.proofs.WordLemmas.{first-near, month-nearer, month-short, next-month-near, one-less}
use Rattle.cal_rrule.proofs.month_steps.month_numbered.Goals as goal

pub returns-then-months-eq0-clause-reached : goal.returns-then-months-eq0-clause-reached
returns-then-months-eq0-clause-reached g c =
    reached-zero (g.C.Calendar.system c.args.calendar.now).list c.args.look.now c.args.months c.requires.look c.if-months-eq0.true

pub returns-then-months-eq0-clause-near : goal.returns-then-months-eq0-clause-near
returns-then-months-eq0-clause-near g c =
    let look = c.args.look.now in
    first-near look.first c.args.day look.days c.requires.within.0 c.requires.within.1 (month-short look.days look.short) c.requires.valid

pub returns-then-months-gt27040001-clause-reached : goal.returns-then-months-gt27040001-clause-reached
returns-then-months-gt27040001-clause-reached g c =
    let list = (g.C.Calendar.system c.args.calendar.now).list in
    let law = g.met.C.Calendar.lawful c.args.calendar.now in
    let look = c.args.look.now in
    reached-far list law c.requires.nearby look c.args.day c.args.months c.requires.look c.requires.valid c.requires.within
    c.if-months-gt27040001.true

pub month_after-requires-clause-near : goal.month_after-requires-clause-near
month_after-requires-clause-near g c = month-nearer c.in-Some.before.first c.in-Some.ensures.first

pub returns-in-None-clause-reached : goal.returns-in-None-clause-reached
returns-in-None-clause-reached g c =
    let list = (g.C.Calendar.system c.args.calendar.now).list in
    let law = g.met.C.Calendar.lawful c.args.calendar.now in
    let look = c.args.look.now in
    let next = one-less c.args.months c.if-months-eq0.false in
    reached-none list law look (c.args.months - 1) c.args.months next c.requires.look c.in-None.ensures.held

pub returns-in-Some-clause-reached : goal.returns-in-Some-clause-reached
returns-in-Some-clause-reached g c =
    let list = (g.C.Calendar.system c.args.calendar.now).list in
    let law = g.met.C.Calendar.lawful c.args.calendar.now in
    let look = c.args.look.now in
    let next = one-less c.args.months c.if-months-eq0.false in
    reached-next list law look c.in-Some.before c.month_after.result (c.args.months - 1) c.args.months next
    c.in-Some.ensures.held.0 c.in-Some.ensures.held.1 c.month_after.ensures.look c.month_after.ensures.joins

pub returns-in-Some-clause-near : goal.returns-in-Some-clause-near
returns-in-Some-clause-near g c =
    let before = c.in-Some.before in
    next-month-near c.month_after.result.first before.first before.days c.month_after.ensures.joins before.short c.in-Some.ensures.first
