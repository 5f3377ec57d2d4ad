use Rattle.std.proofs.Common.{◌∙◌, ℤ, pos, ◌≤ℤ◌, ◌<ℤ◌, sym, subst, subst₂, to_z, of_z, w64}
use Rattle.cal_rrule.proofs.LookLemmas.{some}
use Rattle.cal_rrule.proofs.WordLemmas.{behind-up, end-word, le-fails, le-holds, less-up, month-last-low, month-low, month-short, near-day-word, walk-near, walk-on}
use Rattle.cal_rrule.proofs.near_months.month_behind.Goals as goal

pub loop-look-init : goal.loop-look-init
loop-look-init g c =
    let look = c.month_of-look.result in
    let within = c.month_of-look.ensures.within in (
      c.month_of-look.ensures.look,
      month-last-low look.first look.days within.1 look.short,
      subst (λ (d : ℤ). look.first ≤ℤ d) (sym (near-day-word c.args.day c.requires.day))
          (behind-up look.first c.args.day within.0 c.requires.behind),
    )

pub loop-look-preserved : goal.loop-look-preserved
loop-look-preserved g c =
    let look = c.loop-look.look in
    let inv = c.loop-look.invariant in
    let joins = c.month_after-look.ensures.joins in
    let end = end-word c.end.result look.first look.days c.end.ensures look.near (month-short look.days look.short) in (
      c.month_after-look.ensures.look,
      walk-on (pos 365242000) look.first c.month_after-look.result.first look.days inv.1 joins,
      subst (λ (d : ℤ). d ≤ℤ to_z w64 (of_z w64 c.args.day)) (end ∙ sym joins) (le-holds _ _ c.loop-look-test.true),
    )

pub loop-look-smaller : goal.loop-look-smaller
loop-look-smaller g c =
    let look = c.loop-look.look in
    let joins = c.month_after-look.ensures.joins in
    let end = end-word c.end.result look.first look.days c.end.ensures look.near (month-short look.days look.short) in
    let up = subst (λ (d : ℤ). d ≤ℤ to_z w64 (of_z w64 c.args.day)) (end ∙ sym joins) (le-holds _ _ c.loop-look-test.true) in
    let has = some (g.C.Calendar.system c.args.calendar.now).list (g.met.C.Calendar.lawful c.args.calendar.now) look c.loop-look.invariant.0 in
    less-up (to_z w64 (of_z w64 c.args.day)) look.first c.month_after-look.result.first look.days up joins has

pub month_after-look-requires-clause-near : goal.month_after-look-requires-clause-near
month_after-look-requires-clause-near g c =
    let look = c.loop-look.look in
    let inv = c.loop-look.invariant in
    let up = subst (λ (d : ℤ). look.first ≤ℤ d) (near-day-word c.args.day c.requires.day) inv.2 in
    walk-near look.first c.args.day (month-low look.first inv.1) up c.requires.day

pub month_after-look-requires-clause-nearby : goal.month_after-look-requires-clause-nearby
month_after-look-requires-clause-nearby g c = c.requires.nearby

pub returns-clause-within : goal.returns-clause-within
returns-clause-within g c =
    let look = c.loop-look.look in
    let day = near-day-word c.args.day c.requires.day in
    let end = end-word c.end.result look.first look.days c.end.ensures look.near (month-short look.days look.short) in (
      subst (λ (d : ℤ). look.first ≤ℤ d) day c.loop-look.invariant.2,
      subst₂ (λ (a b : ℤ). a <ℤ b) day end (le-fails _ _ c.loop-look-test.false),
    )
