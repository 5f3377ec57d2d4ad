use Rattle.std.proofs.Common.{arith}
use Rattle.cal_recur.proofs.IndexLemmas.{behind-near, rest-near, whole-near}
use Rattle.cal_recur.proofs.near.months_near.Goals as goal

pub returns-then-difference : goal.returns-then-difference
returns-then-difference g c =
    let s = g.C.Calendar.system c.args.calendar.now in
    let t = g.C.Calendar.date_of c.args.calendar.now c.args.start.now in
    let u = g.C.Calendar.date_of c.args.calendar.now c.from_rata_die-target.result in
    let law = g.met.C.Calendar.lawful c.args.calendar.now in
    let dated = g.met.C.Calendar.dated c.args.calendar.now c.args.start.now c.requires.belongs in
    behind-near s law t u dated.date c.args.day c.from_rata_die-target.ensures.on c.until-difference.result c.until-difference.ensures.difference c.if-difference.true

pub returns-then-difference-eq0 : goal.returns-then-difference-eq0
returns-then-difference-eq0 g c =
    let s = g.C.Calendar.system c.args.calendar.now in
    let t = g.C.Calendar.date_of c.args.calendar.now c.args.start.now in
    let u = g.C.Calendar.date_of c.args.calendar.now c.from_rata_die-target.result in
    let law = g.met.C.Calendar.lawful c.args.calendar.now in
    let dated = g.met.C.Calendar.dated c.args.calendar.now c.args.start.now c.requires.belongs in
    let ends = c.until-difference.ensures in
    whole-near s law t u dated.date c.args.day c.from_rata_die-target.ensures.on c.until-difference.result ends.difference ends.leads_back c.if-difference.false c.if-difference-eq0.true

pub returns : goal.returns
returns g c =
    let s = g.C.Calendar.system c.args.calendar.now in
    let t = g.C.Calendar.date_of c.args.calendar.now c.args.start.now in
    let u = g.C.Calendar.date_of c.args.calendar.now c.from_rata_die-target.result in
    let law = g.met.C.Calendar.lawful c.args.calendar.now in
    let dated = g.met.C.Calendar.dated c.args.calendar.now c.args.start.now c.requires.belongs in
    let ends = c.until-difference.ensures in
    rest-near s law t u dated.date c.args.day c.from_rata_die-target.ensures.on c.until-difference.result ends.difference ends.leads_back c.if-difference.false (omega (arith, c.if-difference-eq0.false))
