use Rattle.std.proofs.Common.{Err, true, refl}
use Rattle.calspan_run.specs.DayLines.{IsListEnd, list_text}
use Rattle.calspan_run.specs.declared.status.Status.TheVariants.{Refused}
use Rattle.calspan_run.proofs.WriterLemmas.{ended_err}
use Rattle.calspan_run.proofs.day_lines.refuse_list.Goals as goal

pub returns-in_err-write_refusal-clause-listed : goal.returns-in_err-write_refusal-clause-listed
returns-in_err-write_refusal-clause-listed g c =
    ended_err c.from_residual.result _ _ (IsListEnd (Err c.args.why.now)) (list_text (Err c.args.why.now)) Refused c.from_residual.ensures.0
    (true, (refl, refl), refl) c.in_err-write_refusal.ensures.wrote
