use Rattle.std.proofs.Common.{◌≡◌, ℕ, subst, arith, to_z, of_z, w64}
use Rattle.cal_days.proofs.Signed.{signed}
use Rattle.cal_rrule.specs.Masks.{Adds}
use Rattle.cal_rrule.specs.YearWeeks.{IsInNumbered}
use Rattle.cal_rrule.proofs.MaskLemmas.{adds-none}
use Rattle.cal_rrule.proofs.YearWeekLemmas.{numbered-more, numbered-none}
use Rattle.cal_rrule.proofs.year_weeks.add_numbered.Goals as goal

pub loop-place-init : goal.loop-place-init
loop-place-init c =
    let w = c.args.weeks.now in
    adds-none c.args.days.now (IsInNumbered c.args.set.now w.first w.count 0) (numbered-none c.args.set.now w.first w.count)

pub loop-place-preserved : goal.loop-place-preserved
loop-place-preserved c =
    let w = c.args.weeks.now in
    let own : to_z w64 (of_z w64 w.first) ≡ w.first = omega (arith, signed, w.near) in
    numbered-more c.args.set.now w.first w.count c.loop-place.place c.args.days.now c.loop-place.days c.add_week_if.new.days
    c.is_numbered.result c.loop-place.invariant c.is_numbered.ensures (rw own at c.add_week_if.ensures)

pub returns : goal.returns
returns c =
    let w = c.args.weeks.now in
    let end : c.loop-place.place ≡ w.count = omega (arith, c.loop-place-test.false, c.loop-place.auto.place-end) in
    subst (λ (m : ℕ). Adds c.args.days.now c.loop-place.days (IsInNumbered c.args.set.now w.first w.count m)) end c.loop-place.invariant
