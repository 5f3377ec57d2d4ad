use Rattle.std.proofs.Common.{sym, ap, ◌∙◌}
use Rattle.std.proofs.lemmas.Bool.{false≢true}
use Rattle.std.specs.Option.{option_map}
use Rattle.cal_types.specs.Bag.{bag_of}
use Rattle.request_lines.specs.Bags.{with_word}
use Rattle.request_lines.specs.WordsLeft.{words_left}
use Rattle.request_lines.proofs.KeyLemmas.{all_go_on, all_fail, fewer_left}
use Rattle.request_lines.proofs.bag.read_bag.Goals as goal

pub loop-fields-smaller : goal.loop-fields-smaller
loop-fields-smaller c =
    fewer_left (with_word (bag_of c.loop-fields.fields)) (words_left c.loop-fields.words) (words_left c.set_next_field.new.words) (bag_of c.set_next_field.new.fields) c.in_ok-set_next_field.ensures

pub loop-fields-preserved : goal.loop-fields-preserved
loop-fields-preserved c =
    c.loop-fields.invariant
    ∙ all_go_on (bag_of c.loop-fields.fields) (bag_of c.set_next_field.new.fields) (words_left c.loop-fields.words) (words_left c.set_next_field.new.words) c.in_ok-set_next_field.ensures

pub returns-in_err-set_next_field : goal.returns-in_err-set_next_field
returns-in_err-set_next_field c =
    let fails = all_fail (bag_of c.loop-fields.fields) (words_left c.loop-fields.words) (λ e. false≢true (c.loop-fields-test.ensures.1 e)) c.in_err-set_next_field.ensures in
    ap (option_map (λ _. bag_of c.set_next_field.new.fields)) c.from_residual.ensures ∙ sym (c.set_plain_date.ensures.of_all ∙ c.loop-fields.invariant ∙ fails)
