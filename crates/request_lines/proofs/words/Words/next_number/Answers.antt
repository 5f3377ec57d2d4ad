use Rattle.std.proofs.Common.{◌∷◌, ◌-◌, ℕ, length, take, drop, sym, ap, subst, ◌∙◌, ◌<◌, arith}
use Rattle.std.proofs.lemmas.List.{take_rest}
use Rattle.word_values.specs.Numbers.{number_of, AreLeadingDigits}
use Rattle.request_lines.specs.WordsLeft.{words_from}
use Rattle.request_lines.specs.Reading.{next_word}
use Rattle.request_lines.proofs.TakingLemmas.{empty, is_other}
use Rattle.request_lines.proofs.NumberLemmas.{last_number, number_taken, no_number_stands}
use Rattle.request_lines.proofs.words.Words.next_number.Goals as goal

pub returns-then-first-ne32-clause-value : goal.returns-then-first-ne32-clause-value
returns-then-first-ne32-clause-value c =
    let count = c.leading_digits-count.result.0 in
    let value = c.leading_digits-count.result.1 in
    let ahead = subst (λ t. AreLeadingDigits t count value) c.first_bytes.ensures c.leading_digits-count.ensures.digits in
    ap (λ r. next_word (number_of c.args.most) (words_from r)) c.in_ok-text.was
    ∙ no_number_stands c.args.most c.in_ok-text.text.now count value ahead c.in-Some.first.now c.in-Some.others.now (is_other c.in-Some.first.now c.if-first-ne32.true) (sym (take_rest c.in_ok-text.text.now count) ∙ c.in-Some.ensures.cases.0)

pub returns-in-None-clause-value : goal.returns-in-None-clause-value
returns-in-None-clause-value c =
    let count = c.leading_digits-count.result.0 in
    let value = c.leading_digits-count.result.1 in
    let ahead = subst (λ t. AreLeadingDigits t count value) c.first_bytes.ensures c.leading_digits-count.ensures.digits in
    let some : 0 < count = omega (arith, c.if-count-eq0.false) in
    ap (λ r. next_word (number_of c.args.most) (words_from r)) c.in_ok-text.was
    ∙ last_number c.args.most c.in_ok-text.text.now count value ahead some (sym (take_rest c.in_ok-text.text.now count) ∙ empty (take (length c.in_ok-text.text.now - count) (drop count c.in_ok-text.text.now)) c.in-None.ensures.cases)

pub returns-else-first-ne32-clause-value : goal.returns-else-first-ne32-clause-value
returns-else-first-ne32-clause-value c =
    let count = c.leading_digits-count.result.0 in
    let value = c.leading_digits-count.result.1 in
    let ahead = subst (λ t. AreLeadingDigits t count value) c.first_bytes.ensures c.leading_digits-count.ensures.digits in
    let some : 0 < count = omega (arith, c.if-count-eq0.false) in
    ap (λ r. next_word (number_of c.args.most) (words_from r)) c.in_ok-text.was
    ∙ number_taken c.args.most c.in_ok-text.text.now count value ahead c.in-Some.others.now some
    (sym (take_rest c.in_ok-text.text.now count) ∙ c.in-Some.ensures.cases.0 ∙ ap (λ (x : ℕ). x ∷ c.in-Some.others.now) c.if-first-ne32.false)
