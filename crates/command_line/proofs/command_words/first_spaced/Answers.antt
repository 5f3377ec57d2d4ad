use Rattle.std.proofs.Common.{[], ◌∷◌, ℕ, List, Some, None, arith, ap, sym, ◌∙◌}
use Rattle.std.proofs.lemmas.Str.Pattern.{split_parts}
use Rattle.command_line.specs.SpacedWords.{words_in}
use Rattle.command_line.proofs.WordLemmas.{words-cut, words-one}
use Rattle.command_line.proofs.command_words.first_spaced.Goals as goal

pub returns-in-Some : goal.returns-in-Some
returns-in-Some c =
    let cut = split_parts 32 c.args.text.now (Some (c.in-Some.word, c.in-Some.rest)) c.in-Some.ensures.cases (omega arith) in
    ap words_in cut.0 ∙ (words-cut _ _ cut.1 ∙ ap (λ (w : List ℕ). w ∷ words_in c.in-Some.rest.now) (sym c.as_bytes.ensures.value))

pub returns-in-None : goal.returns-in-None
returns-in-None c =
    let lacks = split_parts 32 c.args.text.now None (rw c.in-None.is at c.split_once.ensures.cases) (omega arith) in
    words-one _ lacks ∙ ap (λ (w : List ℕ). w ∷ []) (sym c.as_bytes-in-None.ensures.value)
