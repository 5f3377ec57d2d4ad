use Rattle.std.proofs.Common.{◌≡◌, ◌∙◌, sym, arith}
use Rattle.cal_days.proofs.Signed.{signed}
use Rattle.cal_rrule.specs.Looks.{look_stretch}
use Rattle.cal_rrule.specs.Stretches.{end_of}
use Rattle.cal_rrule.proofs.MaskLemmas.{adds-run}
use Rattle.cal_rrule.proofs.WalkLemmas.{months-no, months-yes}
use Rattle.cal_rrule.proofs.span_masks.add_if_kept.Goals as goal

pub returns-then-contains : goal.returns-then-contains
returns-then-contains c = λ list is.
    let rule = c.args.asked.now.rule in
    let look = c.args.look.now in
    let first : c.new.result ≡ look.first = omega (arith, signed) in
    let to : c.new-then-contains.result ≡ end_of (look_stretch look) = omega (arith, signed, c.end.ensures) in
    let has = rw c.months.ensures at c.contains.ensures in
    months-yes list rule look is c.args.days.now c.insert_days.new.self (sym has ∙ c.if-contains.true)
    (rw (first, to) at (adds-run c.args.days.now c.insert_days.new.self c.new.result c.new-then-contains.result c.insert_days.ensures.first c.insert_days.ensures.days))

pub returns-else-contains : goal.returns-else-contains
returns-else-contains c = λ list is.
    let rule = c.args.asked.now.rule in
    let look = c.args.look.now in
    let has = rw c.months.ensures at c.contains.ensures in
    months-no list rule look is c.args.days.now (sym has ∙ c.if-contains.false)
