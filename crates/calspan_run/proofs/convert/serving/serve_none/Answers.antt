use Rattle.std.proofs.Common.{inr, refl, arith}
use Rattle.command_line.specs.ConvertSaid.{convert_said}
use Rattle.calspan_run.specs.Streaming.{convert_rules}
use Rattle.table_rows.specs.RowsSaid.{rows_said}
use Rattle.calspan_run.proofs.ConvertRunLemmas.{ends_stream, none_answered, none_refused}
use Rattle.calspan_run.proofs.convert.serving.serve_none.Goals as goal

pub returns-in-Ok : goal.returns-in-Ok
returns-in-Ok g c left now faults reads met = none_answered (convert_said c.args.words) (rows_said c.args.rows.now) left now met _ faults reads _ _ c.in-Ok.ensures.0

pub returns-in-Err : goal.returns-in-Err
returns-in-Err g c left now faults reads met =
    ends_stream (convert_rules (convert_said c.args.words)) left now _ _ faults reads _ _ _ _
    (none_refused (convert_said c.args.words) (rows_said c.args.rows.now) left now met c.in-Err.refusal.table c.in-Err.refusal.fault c.in-Err.ensures) c.refuse_table.result _ (inr (inr refl)) (omega arith) c.refuse_table.ensures
