use Rattle.std.proofs.Common.{◌∙◌, arith}
use Rattle.std.proofs.lemmas.List.{length-set}
use Rattle.cal_holidays.specs.Found.{stretch_of}
use Rattle.cal_holidays.proofs.KeptLemmas.{kept_next}
use Rattle.cal_holidays.proofs.merged.firsts_of.Goals as goal

pub loop-place-preserved : goal.loop-place-preserved
loop-place-preserved g c =
    let names = g.R.NumberedRules.names c.args.rules.now in
    let count = g.R.NumberedRules.count_of c.args.rules.now in
    let firsts = c.loop-place.firsts in
    let place = c.loop-place.place in
    let size = c.loop-place.invariant.size in
    record {
      size = length-set firsts place c.first_of_place.result ∙ size;
      firsts = kept_next names count (stretch_of c.args.rest) firsts place c.first_of_place.result (omega (arith, size, c.loop-place-test.true)) c.loop-place.invariant.firsts c.first_of_place.ensures;
    }
