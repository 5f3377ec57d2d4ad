use Rattle.std.proofs.Common.{true, drop, codes, refl, sym, ap, ◌∙◌}
use Rattle.word_values.specs.Numbers.{number_of, byte_of}
use Rattle.request_lines.specs.Words.{words_of}
use Rattle.request_lines.specs.WordsLeft.{words_from}
use Rattle.request_lines.specs.Reading.{next_word}
use Rattle.request_lines.specs.Bags.{Day}
use Rattle.request_lines.proofs.TakingLemmas.{first_bytes_are}
use Rattle.request_lines.proofs.PlainWordLemmas.{first_field, next_byte-number}
use Rattle.request_lines.proofs.plain_words.plain_day.Goals as goal

pub returns : goal.returns
returns c =
    let text = c.args.text.now in
    let left = words_from c.in_ok-number.rest in
    let number = c.in_ok-number.number in
    let key = c.in_ok-key.ensures.cases in
    first_field Day (codes "day=") byte_of text left number (λ word h. h) refl
    (first_bytes_are (codes "day=") text c.in_ok-key.key.now 4 c.ne.result true refl key.0 c.ne.ensures c.if-ne.false)
    (next_byte-number (words_of (drop 4 text)) left number c.in_ok-number.ensures.small
    (ap (λ t. next_word (number_of 3) (words_of t)) (sym key.1) ∙ c.in_ok-number.ensures.value))
