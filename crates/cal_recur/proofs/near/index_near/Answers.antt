use Rattle.std.proofs.Common.{ℕ, sym, ap, subst, ◌∙◌, ◌<◌}
use Rattle.std.specs.Int.{div_ceil}
use Rattle.cal_types.specs.declared.duration.DateDurationUnit.{DateDurationUnit}
use Rattle.cal_recur.specs.FirstIndex.{AreBefore}
use Rattle.cal_recur.specs.Near.{IsNear}
use Rattle.cal_recur.proofs.IndexLemmas.{near-after, near-before}
use Rattle.cal_recur.proofs.near.index_near.Goals as goal

pub returns-clause-before : goal.returns-clause-before
returns-clause-before g c =
    let s = g.C.Calendar.system c.args.calendar.now in
    let t = g.C.Calendar.date_of c.args.calendar.now c.args.start.now in
    let index = c.div_ceil.ensures ∙ ap (div_ceil c.units_near.result) c.every.ensures.value in
    let near = subst (λ (unit : DateDurationUnit). IsNear s t unit c.args.day c.units_near.result) c.unit.ensures c.units_near.ensures in
    subst (AreBefore s t c.args.rule c.args.day) (sym index) (near-before s t c.args.rule c.args.day c.units_near.result near)

pub returns-clause-after : goal.returns-clause-after
returns-clause-after g c k lt n e =
    let s = g.C.Calendar.system c.args.calendar.now in
    let t = g.C.Calendar.date_of c.args.calendar.now c.args.start.now in
    let index = c.div_ceil.ensures ∙ ap (div_ceil c.units_near.result) c.every.ensures.value in
    let near = subst (λ (unit : DateDurationUnit). IsNear s t unit c.args.day c.units_near.result) c.unit.ensures c.units_near.ensures in
    near-after s t c.args.rule c.args.day c.units_near.result near k (subst (λ (i : ℕ). i < k) index lt) n e
