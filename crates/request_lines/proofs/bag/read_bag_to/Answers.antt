use Rattle.std.proofs.Common.{sym, ap, ◌∙◌}
use Rattle.cal_types.specs.Bag.{bag_of}
use Rattle.request_lines.specs.Reading.{next_word}
use Rattle.request_lines.specs.Bags.{with_word}
use Rattle.request_lines.specs.WordsLeft.{words_left}
use Rattle.request_lines.proofs.KeyLemmas.{bag_goes_on, bag_fails, fewer_left}
use Rattle.request_lines.proofs.FieldLemmas.{sets_nothing}
use Rattle.request_lines.proofs.bag.read_bag_to.Goals as goal

pub loop-fields-smaller : goal.loop-fields-smaller
loop-fields-smaller c =
    let stays = c.loop-fields-test.ensures in
    let read = ap (next_word (with_word (bag_of c.loop-fields.fields))) (sym stays.1) ∙ c.in_ok-set_next_field.ensures in
    fewer_left (with_word (bag_of c.loop-fields.fields)) (words_left c.loop-fields.words) (words_left c.set_next_field.new.words) (bag_of c.set_next_field.new.fields) read

pub loop-fields-preserved : goal.loop-fields-preserved
loop-fields-preserved c =
    let stays = c.loop-fields-test.ensures in
    let read = ap (next_word (with_word (bag_of c.loop-fields.fields))) (sym stays.1) ∙ c.in_ok-set_next_field.ensures in
    c.loop-fields.invariant
    ∙ bag_goes_on (bag_of c.loop-fields.fields) (bag_of c.set_next_field.new.fields) (words_left c.loop-fields.words) (words_left c.set_next_field.new.words) stays.0 read

pub returns-in_err-set_next_field : goal.returns-in_err-set_next_field
returns-in_err-set_next_field c =
    let stays = c.loop-fields-test.ensures in
    let fails = ap (next_word (with_word (bag_of c.loop-fields.fields))) (sym stays.1) ∙ c.in_err-set_next_field.ensures in
    sets_nothing _ _ _ _ c.from_residual.ensures (c.set_plain_date.ensures.before_to ∙ c.loop-fields.invariant ∙ bag_fails (bag_of c.loop-fields.fields) (words_left c.loop-fields.words) stays.0 fails)
