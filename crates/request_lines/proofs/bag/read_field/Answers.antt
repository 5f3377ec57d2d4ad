use Rattle.std.proofs.Common.{List, ℕ, sym, subst, ◌∙◌}
use Rattle.std.specs.Option.{option_map}
use Rattle.cal_types.specs.Bag.{bag_of}
use Rattle.request_lines.specs.Bags.{with_word}
use Rattle.request_lines.specs.Reading.{IsReading, next_word}
use Rattle.request_lines.specs.WordsLeft.{words_left}
use Rattle.request_lines.proofs.WholeWordLemmas.{whole_read}
use Rattle.request_lines.proofs.bag.read_field.Goals as goal

pub returns : goal.returns
returns c =
    let bag = bag_of c.args.fields.now in
    let new = bag_of c.set_next_field.new.fields in
    let read = subst (λ (ws : List (List ℕ)). IsReading (next_word (with_word bag) ws) (option_map (λ _. new) c.set_next_field.result) (words_left c.set_next_field.new.words)) c.new-words.ensures c.set_next_field.ensures in
    whole_read bag new c.args.word.now c.set_next_field.result _ (sym c.is_whole_word.ensures ∙ c.if-not-is_whole_word.false) read
