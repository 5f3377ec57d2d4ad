use Rattle.std.proofs.Common.{List, ℕ, ◌++◌, subst}
use Rattle.row_faults.specs.Stages.{word_of}
use Rattle.calspan_run.specs.Explained.{fault_ending, place_text, standing, word_bytes}
use Rattle.calspan_run.specs.TextSoFar.{Pushed, TextSoFar}
use Rattle.calspan_run.specs.Written.{WrotePrefix}
use Rattle.calspan_run.proofs.ExplainAnswerLemmas.{regrouped_pushed, regrouped_short}
use Rattle.calspan_run.proofs.WriterLemmas.{pushed_err, short_more}
use Rattle.calspan_run.proofs.explain.lines.explain_fault.Goals as goal

pub returns-in_err-push_standing-clause-text : goal.returns-in_err-push_standing-clause-text
returns-in_err-push_standing-clause-text g c before text h =
    let head = place_text c.args.number (word_of c.args.fault) ++ standing (word_bytes c.args.word) in
    let said = subst (λ (n : ℕ). WrotePrefix before (g.K.Sink.taken c.push_standing.new.sink) (text ++ (place_text c.args.number n ++ standing (word_bytes c.args.word)))) c.word.ensures (c.in_err-push_standing.ensures.text before text h) in
    pushed_err c.from_residual.result before _ _ _ c.from_residual.ensures.0
    (regrouped_short before _ text head (fault_ending c.args.fault) (short_more before _ (text ++ head) (fault_ending c.args.fault) said))

pub returns-clause-text : goal.returns-clause-text
returns-clause-text g c before text h =
    let head = place_text c.args.number (word_of c.args.fault) ++ standing (word_bytes c.args.word) in
    let said = subst (λ (n : ℕ). TextSoFar before (g.K.Sink.taken c.push_standing.new.sink) c.push_standing.new.pending.items (text ++ (place_text c.args.number n ++ standing (word_bytes c.args.word)))) c.word.ensures (c.in_ok-push_standing.ensures.text before text h) in
    regrouped_pushed c.push.result before _ _ text head (fault_ending c.args.fault)
    (subst (λ (x : List ℕ). Pushed c.push.result before (g.K.Sink.taken c.push.new.sink) c.push.new.pending.items ((text ++ head) ++ x)) c.fault_ending.ensures
    (c.push.ensures.text before (text ++ head) said))
