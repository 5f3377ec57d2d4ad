use Rattle.std.proofs.Common.{◌≡◌, ◌∷◌, ℕ, refl, sym, ap, ◌∙◌}
use Rattle.request_lines.specs.WordsLeft.{words_from}
use Rattle.request_lines.specs.Taking.{after_word}
use Rattle.request_lines.proofs.TakingLemmas.{last_word_taken, word_taken, longer_word_stays, other_word_stays, empty, is_other}
use Rattle.request_lines.proofs.words.Words.take.Goals as goal

pub returns-in_default-strip_prefix : goal.returns-in_default-strip_prefix
returns-in_default-strip_prefix c =
    (ap (λ r. after_word c.args.word.now (words_from r)) c.in-Some.is ∙ other_word_stays c.args.word.now c.in-Some.text.now c.in_default-strip_prefix.ensures.cases, refl)

pub returns-in-None : goal.returns-in-None
returns-in-None c =
    let cases = c.in-Some-strip_prefix.ensures.cases in
    ap (λ r. after_word c.args.word.now (words_from r)) c.in-Some.is
    ∙ last_word_taken c.args.word.now c.in-Some.text.now c.requires cases.0 (sym cases.1 ∙ empty c.in-Some-strip_prefix.behind.now c.in-None.ensures.cases)

pub returns-then-first-ne32 : goal.returns-then-first-ne32
returns-then-first-ne32 c =
    let cases = c.in-Some-strip_prefix.ensures.cases in
    let more = c.in-Some-split_first.ensures.cases in (
      ap (λ r. after_word c.args.word.now (words_from r)) c.in-Some.is
          ∙ longer_word_stays c.args.word.now c.in-Some.text.now c.in-Some-split_first.others.now c.in-Some-split_first.first.now c.requires cases.0 (sym cases.1 ∙ more.0) (is_other c.in-Some-split_first.first.now c.if-first-ne32.true),
      refl,
    )

pub returns-else-first-ne32 : goal.returns-else-first-ne32
returns-else-first-ne32 c =
    let cases = c.in-Some-strip_prefix.ensures.cases in
    let more = c.in-Some-split_first.ensures.cases in
    let space : c.in-Some-split_first.first.now ≡ 32 = c.if-first-ne32.false in
    ap (λ r. after_word c.args.word.now (words_from r)) c.in-Some.is
    ∙ word_taken c.args.word.now c.in-Some.text.now c.in-Some-split_first.others.now c.requires cases.0 (sym cases.1 ∙ (more.0 ∙ ap (λ (x : ℕ). x ∷ c.in-Some-split_first.others.now) space))
