use Rattle.std.proofs.Common.{true, ◌≡◌, pos, w32, to_z, drop, codes, Some, refl, sym, ap, ◌∙◌, arith}
use Rattle.cal_days.proofs.Signed.{signed, signed_casts}
use Rattle.word_values.specs.Numbers.{number_of, int_of}
use Rattle.request_lines.specs.Words.{words_of}
use Rattle.request_lines.specs.Reading.{next_word}
use Rattle.request_lines.specs.Bags.{ExtendedYear}
use Rattle.request_lines.proofs.KeyLemmas.{with_words}
use Rattle.request_lines.proofs.TakingLemmas.{first_bytes_are}
use Rattle.request_lines.proofs.PlainWordLemmas.{first_field, next_int-number}
use Rattle.request_lines.proofs.plain_words.plain_year.Goals as goal

pub returns : goal.returns
returns c =
    let text = c.args.text.now in
    let left = words_of c.in_ok-number.others.now in
    let number = c.in_ok-number.number in
    let same : pos number ≡ to_z w32 number = omega (arith, signed, signed_casts, c.in_ok-number.ensures.small) in
    let key = c.in_ok-key.ensures.cases in
    let reads = ap (λ t. next_word (number_of 9) (words_of t)) (sym key.1) ∙ c.in_ok-number.ensures.value in
    first_field ExtendedYear (codes "year=") int_of text left (to_z w32 number) (λ word h. h) refl
    (first_bytes_are (codes "year=") text c.in_ok-key.key.now 5 c.ne.result true refl key.0 c.ne.ensures c.if-ne.false)
    (next_int-number (words_of (drop 5 text)) left number reads ∙ ap (λ z. with_words left (Some z)) same)
