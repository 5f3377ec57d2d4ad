use Rattle.std.proofs.Common.{subst, arith}
use Rattle.std.proofs.lemmas.Grind.{common_steps}
use Rattle.cal_types.specs.DurationText.{parts_of}
use Rattle.cal_types.proofs.DurationLemmas.{IsReading, reading-goes_on}
use Rattle.cal_types.proofs.duration_text.Amounts.read.Goals as goal

pub loop-rest-preserved : goal.loop-rest-preserved
loop-rest-preserved c =
    let all = parts_of c.args.text.now in
    let read = c.loop-rest.amounts in
    let begun = subst (λ left. IsReading read all left) c.first_part-end.ensures.parts c.loop-rest.invariant in
    reading-goes_on read c.in_ok-amounts.amounts _ _ all _ begun c.in_ok-amounts.ensures

pub returns : goal.returns
returns c = grind (arith, common_steps)
