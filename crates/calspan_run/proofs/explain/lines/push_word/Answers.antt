use Rattle.std.proofs.Common.{List, ℕ, ◌++◌, ◌∷◌, [], subst}
use Rattle.calspan_run.specs.Explained.{place_text}
use Rattle.calspan_run.specs.TextSoFar.{Pushed}
use Rattle.calspan_run.proofs.ExplainAnswerLemmas.{word_behind}
use Rattle.calspan_run.proofs.WriterLemmas.{text_more}
use Rattle.calspan_run.proofs.explain.lines.push_word.Goals as goal

pub returns-clause-text : goal.returns-clause-text
returns-clause-text g c before text h =
    let place = place_text c.args.number c.args.at in
    let placed = text_more before (g.K.Sink.taken c.args.sink.now) c.args.pending.now.items place c.push_place.new.text.items text h c.push_place.ensures.items in
    let spaced = text_more before (g.K.Sink.taken c.args.sink.now) c.push_place.new.text.items (32 ∷ []) c.push.new.self.items (text ++ place) placed c.push.ensures.items in
    subst (λ (x : List ℕ). Pushed c.push-2.result before (g.K.Sink.taken c.push-2.new.sink) c.push-2.new.pending.items x) (word_behind text place c.args.word.now)
    (c.push-2.ensures.text before ((text ++ place) ++ 32 ∷ []) spaced)
