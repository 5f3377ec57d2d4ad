use Rattle.std.proofs.Common.{◌∙◌, ℤ, pos, ◌≤ℤ◌, ◌<ℤ◌, sym, subst, subst₂, to_z, of_z, w64}
use Rattle.cal_rrule.proofs.NearYearLemmas.{some-days}
use Rattle.cal_rrule.proofs.WordLemmas.{behind-up, end-word, le-fails, le-holds, less-up, near-day-word, walk-near, walk-on, year-last-low}
use Rattle.cal_rrule.proofs.near_years.year_behind.Goals as goal

pub loop-look-init : goal.loop-look-init
loop-look-init g c =
    let look = c.year_of-look.result in
    let within = c.year_of-look.ensures.within in (
      c.year_of-look.ensures.look,
      year-last-low look.first look.days within.1 look.short,
      subst (λ (d : ℤ). look.first ≤ℤ d) (sym (near-day-word c.args.day c.requires.day))
          (behind-up look.first c.args.day within.0 c.requires.behind),
    )

pub loop-look-preserved : goal.loop-look-preserved
loop-look-preserved g c =
    let look = c.loop-look.look in
    let inv = c.loop-look.invariant in
    let joins = c.year_after-look.ensures.joins in
    let end = end-word c.end.result look.first look.days c.end.ensures look.near look.short in (
      c.year_after-look.ensures.look,
      walk-on (pos 365241000) look.first c.year_after-look.result.first look.days inv.1 joins,
      subst (λ (d : ℤ). d ≤ℤ to_z w64 (of_z w64 c.args.day)) (end ∙ sym joins) (le-holds _ _ c.loop-look-test.true),
    )

pub loop-look-smaller : goal.loop-look-smaller
loop-look-smaller g c =
    let look = c.loop-look.look in
    let joins = c.year_after-look.ensures.joins in
    let end = end-word c.end.result look.first look.days c.end.ensures look.near look.short in
    let up = subst (λ (d : ℤ). d ≤ℤ to_z w64 (of_z w64 c.args.day)) (end ∙ sym joins) (le-holds _ _ c.loop-look-test.true) in
    let has = some-days (g.C.Calendar.system c.args.calendar.now).list (g.met.C.Calendar.lawful c.args.calendar.now) look c.loop-look.invariant.0 in
    less-up (to_z w64 (of_z w64 c.args.day)) look.first c.year_after-look.result.first look.days up joins has

pub year_after-look-requires-clause-near : goal.year_after-look-requires-clause-near
year_after-look-requires-clause-near g c =
    let look = c.loop-look.look in
    let inv = c.loop-look.invariant in
    let up = subst (λ (d : ℤ). look.first ≤ℤ d) (near-day-word c.args.day c.requires.day) inv.2 in
    walk-near look.first c.args.day inv.1 up c.requires.day

pub year_after-look-requires-clause-nearby : goal.year_after-look-requires-clause-nearby
year_after-look-requires-clause-nearby g c = c.requires.nearby

pub returns-clause-within : goal.returns-clause-within
returns-clause-within g c =
    let look = c.loop-look.look in
    let day = near-day-word c.args.day c.requires.day in
    let end = end-word c.end.result look.first look.days c.end.ensures look.near look.short in (
      subst (λ (d : ℤ). look.first ≤ℤ d) day c.loop-look.invariant.2,
      subst₂ (λ (a b : ℤ). a <ℤ b) day end (le-fails _ _ c.loop-look-test.false),
    )
