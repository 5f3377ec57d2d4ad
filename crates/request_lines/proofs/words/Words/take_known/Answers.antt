use Rattle.std.proofs.Common.{◌∷◌, ℕ, true, false, drop, refl, sym, ap, ◌∙◌}
use Rattle.request_lines.specs.WordsLeft.{words_from}
use Rattle.request_lines.specs.Taking.{after_word}
use Rattle.request_lines.proofs.TakingLemmas.{last_word_taken, word_taken, longer_word_stays, other_word_stays, empty, is_other, first_bytes_are, too_short}
use Rattle.request_lines.proofs.words.Words.take_known.Goals as goal

pub returns-in_default-split_first_chunk : goal.returns-in_default-split_first_chunk
returns-in_default-split_first_chunk g c =
    let lacks = too_short c.args.word.now c.in-Some.text.now g.row.N c.told-word c.in_default-split_first_chunk.ensures.cases in
    (ap (λ r. after_word c.args.word.now (words_from r)) c.in-Some.is ∙ other_word_stays c.args.word.now c.in-Some.text.now lacks, refl)

pub returns-then-ne : goal.returns-then-ne
returns-then-ne g c =
    let chunk = c.in-Some-split_first_chunk.ensures.cases in
    let lacks = first_bytes_are c.args.word.now c.in-Some.text.now c.in-Some-split_first_chunk.first.now g.row.N c.ne.result false c.told-word chunk.0 c.ne.ensures c.if-ne.true in
    (ap (λ r. after_word c.args.word.now (words_from r)) c.in-Some.is ∙ other_word_stays c.args.word.now c.in-Some.text.now lacks, refl)

pub returns-then-next-ne32 : goal.returns-then-next-ne32
returns-then-next-ne32 g c =
    let chunk = c.in-Some-split_first_chunk.ensures.cases in
    let has = first_bytes_are c.args.word.now c.in-Some.text.now c.in-Some-split_first_chunk.first.now g.row.N c.ne.result true c.told-word chunk.0 c.ne.ensures c.if-ne.false in
    let behind = ap (λ k. drop k c.in-Some.text.now) c.told-word ∙ (sym chunk.1 ∙ c.in-Some-split_first.ensures.cases.0) in (
      ap (λ r. after_word c.args.word.now (words_from r)) c.in-Some.is
          ∙ longer_word_stays c.args.word.now c.in-Some.text.now c.in-Some-split_first.others.now c.in-Some-split_first.next.now c.requires has behind (is_other c.in-Some-split_first.next.now c.if-next-ne32.true),
      refl,
    )

pub returns-in-None : goal.returns-in-None
returns-in-None g c =
    let chunk = c.in-Some-split_first_chunk.ensures.cases in
    let has = first_bytes_are c.args.word.now c.in-Some.text.now c.in-Some-split_first_chunk.first.now g.row.N c.ne.result true c.told-word chunk.0 c.ne.ensures c.if-ne.false in
    let behind = ap (λ k. drop k c.in-Some.text.now) c.told-word ∙ (sym chunk.1 ∙ empty c.in-Some-split_first_chunk.behind.now c.in-None.ensures.cases) in
    ap (λ r. after_word c.args.word.now (words_from r)) c.in-Some.is
    ∙ last_word_taken c.args.word.now c.in-Some.text.now c.requires has behind

pub returns-else-next-ne32 : goal.returns-else-next-ne32
returns-else-next-ne32 g c =
    let chunk = c.in-Some-split_first_chunk.ensures.cases in
    let has = first_bytes_are c.args.word.now c.in-Some.text.now c.in-Some-split_first_chunk.first.now g.row.N c.ne.result true c.told-word chunk.0 c.ne.ensures c.if-ne.false in
    let behind = ap (λ k. drop k c.in-Some.text.now) c.told-word ∙ (sym chunk.1 ∙ (c.in-Some-split_first.ensures.cases.0 ∙ ap (λ (x : ℕ). x ∷ c.in-Some-split_first.others.now) c.if-next-ne32.false)) in
    ap (λ r. after_word c.args.word.now (words_from r)) c.in-Some.is
    ∙ word_taken c.args.word.now c.in-Some.text.now c.in-Some-split_first.others.now c.requires has behind
