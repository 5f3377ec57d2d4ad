use Rattle.cal_tables.specs.Kinds.{table_contents}
use Rattle.request_lines.specs.RequestSaid.{request_said}
use Rattle.calspan_run.proofs.GeneratorLemmas.{counted-named, counted-refused}
use Rattle.calspan_run.proofs.generated.totals.with_request.Goals as goal

pub returns-in-Ok-clause-counted : goal.returns-in-Ok-clause-counted
returns-in-Ok-clause-counted c =
    counted-named (request_said c.args.request.now) c.args.totals _ (table_contents c.none-tables.result) c.none-tables.ensures _ c.in-Ok.ensures.named c.with_span.ensures.value

pub returns-in-Err-clause-counted : goal.returns-in-Err-clause-counted
returns-in-Err-clause-counted c =
    counted-refused (request_said c.args.request.now) c.args.totals _ (table_contents c.none-tables.result) c.none-tables.ensures _ c.in-Err.ensures.refused c.with_refusal.ensures.value
