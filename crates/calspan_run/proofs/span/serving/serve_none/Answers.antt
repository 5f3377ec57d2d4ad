use Rattle.std.proofs.Common.{[], inl, inr, refl}
use Rattle.table_rows.specs.RowsSaid.{rows_said}
use Rattle.calspan_run.specs.Rules.{span_rules}
use Rattle.calspan_run.specs.TableTexts.{table_refusal}
use Rattle.calspan_run.specs.declared.status.Status.TheVariants.{Done, TableRefused}
use Rattle.calspan_run.proofs.UnderwayLemmas.{rows_end}
use Rattle.calspan_run.proofs.KnownLemmas.{appends_none}
use Rattle.calspan_run.proofs.EndLemmas.{ends_serve}
use Rattle.calspan_run.proofs.AnswerLemmas.{span_lasts}
use Rattle.calspan_run.proofs.span.serving.serve_none.Goals as goal

pub returns-in-Ok : goal.returns-in-Ok
returns-in-Ok g c before left faults reads h =
    let t = g.K.Sink.taken c.args.sink.now in
    ends_serve span_rules span_lasts before left t t faults reads _ _ [] Done (rows_end before left (rows_said c.args.rows.now) [] Done h (inl (c.in-Ok.ensures.0, (refl, refl)))) Done (inl refl) (inl (refl, appends_none t))

pub returns-in-Err : goal.returns-in-Err
returns-in-Err g c before left faults reads h =
    let text = table_refusal c.in-Err.refusal.table c.in-Err.refusal.fault in
    ends_serve span_rules span_lasts before left _ _ faults reads _ _ text TableRefused
    (rows_end before left (rows_said c.args.rows.now) text TableRefused h (inr ((c.in-Err.refusal.table, c.in-Err.refusal.fault, c.in-Err.ensures, refl), refl))) c.refuse_table.result (inr (inr refl)) c.refuse_table.ensures
