use Rattle.std.proofs.Common.{◌<◌, arith}
use Rattle.cal_rrule.specs.Blocks.{start_of}
use Rattle.cal_rrule.proofs.DailyBlockLemmas.{any-found, block-far, block-none, daily-found}
use Rattle.cal_rrule.proofs.daily.daily_block.Goals as goal

pub returns-then-block-gt27040000-clause-days : goal.returns-then-block-gt27040000-clause-days
returns-then-block-gt27040000-clause-days g c = λ later order n valid early of.
    let list = (g.C.Calendar.system c.args.calendar.now).list in
    let a = c.args.asked.now in
    block-far list c.requires.nearby a.rule a c.requires.is_asked c.requires.daily c.args.block later
    c.if-block-gt27040000.true order n of valid

pub returns-in-None-clause-days : goal.returns-in-None-clause-days
returns-in-None-clause-days g c = λ later order n valid early of.
    let list = (g.C.Calendar.system c.args.calendar.now).list in
    let a = c.args.asked.now in
    block-none list (g.met.C.Calendar.lawful c.args.calendar.now) a.rule a.month a.day_of_month c.args.block c.requires.daily
    c.in-None.ensures.held later order n of valid

pub returns-in-Some-clause-days : goal.returns-in-Some-clause-days
returns-in-Some-clause-days g c =
    let list = (g.C.Calendar.system c.args.calendar.now).list in
    let a = c.args.asked.now in
    daily-found list (g.met.C.Calendar.lawful c.args.calendar.now) a.rule a.month c.in-Some.look a.day_of_month c.args.block
    c.in-Some.ensures.held.0 c.in-Some.ensures.held.1 c.requires.daily c.args.last c.kept_until.result
    (c.kept_until.ensures list (start_of a) c.in-Some.ensures.held.0 c.requires.is_asked.on_day)

pub returns-in-Some-clause-few : goal.returns-in-Some-clause-few
returns-in-Some-clause-few g c = any-found c.kept_until.result (c.args.block < 4294967295) (omega (arith, c.if-block-gt27040000.false))
