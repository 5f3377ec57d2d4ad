use Rattle.std.proofs.Common.{◌++◌, sym, subst, ap, ◌∙◌}
use Rattle.request_lines.specs.Words.{words_of}
use Rattle.calspan_run.specs.Converted.{Answer}
use Rattle.calspan_run.specs.Explained.{fault_explained, word_bytes}
use Rattle.calspan_run.specs.Written.{WrotePrefix}
use Rattle.calspan_run.proofs.ConvertAnswerLemmas.{answered_err}
use Rattle.calspan_run.proofs.ExplainAnswerLemmas.{fault_found}
use Rattle.calspan_run.proofs.explain.lines.explain_text.Goals as goal

pub returns-in_err-explain_fault-in-Some-clause-answered : goal.returns-in_err-explain_fault-in-Some-clause-answered
returns-in_err-explain_fault-in-Some-clause-answered g c before so_far h =
    let e = fault_found c.args.number (words_of c.args.text.now) c.in-Some.fault (word_bytes c.word_after-word.result) c.word.result c.saturating_sub.result c.word.ensures c.word_after-word.ensures c.saturating_sub.ensures in
    answered_err c.from_residual.result before _ _ so_far _ c.from_residual.ensures.0
    (subst (λ (y : Answer). WrotePrefix before (g.K.Sink.taken c.explain_fault.new.sink) (so_far ++ y.0)) (sym (ap (fault_explained c.args.number (words_of c.args.text.now)) c.in-Some.is ∙ e)) (c.in_err-explain_fault-in-Some.ensures.text before so_far h))
