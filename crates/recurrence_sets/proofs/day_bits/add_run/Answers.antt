use Rattle.std.proofs.Common.{rules, get_or, ◌∙◌, ◌||◌, ap}
use Rattle.cal_rule.specs.Sets.{has_bit}
use Rattle.recurrence_sets.proofs.DayBitLemmas.{bit-or, run-more}
use Rattle.recurrence_sets.proofs.day_bits.add_run.Goals as goal

pub loop-place-preserved : goal.loop-place-preserved
loop-place-preserved c =
    let words = c.loop-place.words in
    let place = c.loop-place.place in
    record {
      numbers = run-more words c.args.words.now place c.args.from c.args.to _ (search rules)
          (λ k low. bit-or (get_or words place 0) c.run_of_bits.result k
          ∙ ap (λ b. b || has_bit (get_or words place 0) k) (c.run_of_bits.ensures k ∙ c.bounds_in_word-begin.ensures.bits k low))
          c.loop-place.invariant.numbers;
      same_length = search rules;
    }
