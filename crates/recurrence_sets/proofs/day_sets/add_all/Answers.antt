use Rattle.std.proofs.Common.{rules, get_or}
use Rattle.recurrence_sets.proofs.DayBitLemmas.{bit-or}
use Rattle.recurrence_sets.proofs.DaySetLemmas.{add-more}
use Rattle.recurrence_sets.proofs.day_sets.add_all.Goals as goal

pub loop-place-preserved : goal.loop-place-preserved
loop-place-preserved c =
    let words = c.loop-place.words in
    let others = c.args.others.now in
    let place = c.loop-place.place in
    record {
      numbers = add-more words c.args.words.now others place _ (search rules)
          (λ k. bit-or (get_or words place 0) (get_or others place 0) k) c.loop-place.invariant.numbers;
      same_length = search rules;
    }
