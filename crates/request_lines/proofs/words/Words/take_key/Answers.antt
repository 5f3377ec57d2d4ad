use Rattle.std.proofs.Common.{Some, refl, sym, ap, ◌∙◌}
use Rattle.request_lines.specs.Words.{words_of}
use Rattle.request_lines.specs.WordsLeft.{words_from}
use Rattle.request_lines.specs.Taking.{after_key}
use Rattle.request_lines.proofs.TakingLemmas.{key_taken, key_not_taken}
use Rattle.request_lines.proofs.words.Words.take_key.Goals as goal

pub returns-in-Some-strip_prefix : goal.returns-in-Some-strip_prefix
returns-in-Some-strip_prefix c =
    let cases = c.in-Some-strip_prefix.ensures.cases in
    ap (λ r. after_key c.args.key.now (words_from r)) c.in-Some.is
    ∙ (key_taken c.args.key.now c.in-Some.text.now c.requires cases.0 ∙ ap (λ v. Some (words_of v)) (sym cases.1))

pub returns-in-None : goal.returns-in-None
returns-in-None c =
    (ap (λ r. after_key c.args.key.now (words_from r)) c.in-Some.is ∙ key_not_taken c.args.key.now c.in-Some.text.now c.in-None.ensures.cases, refl)
