use Rattle.std.proofs.Common.{◌≡◌, sym, subst, ℤ, pos, ◌+ℤ◌, ◌≤ℤ◌}
use Rattle.cal_types.specs.declared.duration.DateDurationUnit.{DateDurationUnit}
use Rattle.cal_types.specs.declared.duration.DateDurationUnit.TheVariants.{Weeks}
use Rattle.cal_recur.specs.Near.{IsNear}
use Rattle.cal_recur.proofs.IndexLemmas.{days-near, weeks-near}
use Rattle.cal_recur.proofs.near.units_near.Goals as goal

pub returns-in-Weeks : goal.returns-in-Weeks
returns-in-Weeks g c =
    let s = g.C.Calendar.system c.args.calendar.now in
    let t = g.C.Calendar.date_of c.args.calendar.now c.args.start.now in
    let law = g.met.C.Calendar.lawful c.args.calendar.now in
    let dated = g.met.C.Calendar.dated c.args.calendar.now c.args.start.now c.requires.belongs in
    let start = c.to_rata_die.ensures in
    let near = weeks-near s law t dated.date c.args.day c.days_ahead.result (subst (λ (n : ℤ). c.args.day ≤ℤ (n +ℤ pos c.days_ahead.result)) start c.days_ahead.ensures.reached) (λ some. subst (λ (n : ℤ). c.args.day ≡ n +ℤ pos c.days_ahead.result) start (c.days_ahead.ensures.exact some)) in
    subst (λ (unit : DateDurationUnit). IsNear s t unit c.args.day c.div_ceil.result) (sym c.in-Weeks.is)
    (subst (IsNear s t Weeks c.args.day) (sym c.div_ceil.ensures) near)

pub returns-in-Days : goal.returns-in-Days
returns-in-Days g c =
    let s = g.C.Calendar.system c.args.calendar.now in
    let t = g.C.Calendar.date_of c.args.calendar.now c.args.start.now in
    let law = g.met.C.Calendar.lawful c.args.calendar.now in
    let dated = g.met.C.Calendar.dated c.args.calendar.now c.args.start.now c.requires.belongs in
    let start = c.to_rata_die-in-Days.ensures in
    let ahead = c.days_ahead-in-Days in
    let near = days-near s law t dated.date c.args.day ahead.result (subst (λ (n : ℤ). c.args.day ≤ℤ (n +ℤ pos ahead.result)) start ahead.ensures.reached) (λ some. subst (λ (n : ℤ). c.args.day ≡ n +ℤ pos ahead.result) start (ahead.ensures.exact some)) in
    subst (λ (unit : DateDurationUnit). IsNear s t unit c.args.day ahead.result) (sym c.in-Days.is) near
