use Rattle.std.proofs.Common.{◌∙◌, ℤ, pos, neg_ℤ, ◌≤ℤ◌, ◌<ℤ◌, sym, subst, subst₂, to_z, of_z, w64}
use Rattle.cal_rrule.specs.Looks.{look_stretch}
use Rattle.cal_rrule.specs.Stretches.{end_of}
use Rattle.cal_rrule.proofs.LookLemmas.{some}
use Rattle.cal_rrule.proofs.WordLemmas.{ahead-end, less-back, lt-fails, lt-holds, near-day-word, near-word, walk-back}
use Rattle.cal_rrule.proofs.near_months.month_ahead_of.Goals as goal

pub loop-look-init : goal.loop-look-init
loop-look-init g c =
    let look = c.month_of-look.result in
    let within = c.month_of-look.ensures.within in (
      c.month_of-look.ensures.look,
      within.0,
      subst (λ (d : ℤ). d <ℤ end_of (look_stretch look)) (sym (near-day-word c.args.day c.requires.day))
          (ahead-end c.args.day _ c.requires.ahead within.1),
    )

pub loop-look-preserved : goal.loop-look-preserved
loop-look-preserved g c =
    let look = c.loop-look.look in
    let next = c.month_before-look.result in
    let joins = c.month_before-look.ensures.joins in (
      c.month_before-look.ensures.look,
      walk-back (neg_ℤ (pos 365242499)) look.first next.first next.days c.loop-look.invariant.1 joins,
      subst (λ (d : ℤ). to_z w64 (of_z w64 c.args.day) <ℤ d) (near-word look.first look.near ∙ sym joins)
          (lt-holds _ _ c.loop-look-test.true),
    )

pub loop-look-smaller : goal.loop-look-smaller
loop-look-smaller g c =
    let look = c.loop-look.look in
    let next = c.month_before-look.result in
    let day = to_z w64 (of_z w64 c.args.day) in
    let before = subst (λ (d : ℤ). day <ℤ d) (near-word look.first look.near) (lt-holds _ _ c.loop-look-test.true) in
    let has = some (g.C.Calendar.system c.args.calendar.now).list (g.met.C.Calendar.lawful c.args.calendar.now) next
    c.month_before-look.ensures.look in
    less-back day look.first next.first next.days before c.month_before-look.ensures.joins has

pub month_before-look-requires-clause-nearby : goal.month_before-look-requires-clause-nearby
month_before-look-requires-clause-nearby g c = c.requires.nearby

pub returns-clause-within : goal.returns-clause-within
returns-clause-within g c =
    let look = c.loop-look.look in
    let day = near-day-word c.args.day c.requires.day in (
      subst₂ (λ (a b : ℤ). a ≤ℤ b) (near-word look.first look.near) day (lt-fails _ _ c.loop-look-test.false),
      subst (λ (d : ℤ). d <ℤ end_of (look_stretch look)) day c.loop-look.invariant.2,
    )
