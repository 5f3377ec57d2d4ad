use Rattle.std.proofs.Common.{arith, ◌+◌, ap}
use Rattle.byte_io.specs.Lines.{open_line}
use Rattle.table_rows.specs.RowsSaid.{rows_said}
use Rattle.std.proofs.KnownBytes.{Consumes-nil}
use Rattle.calspan_run.proofs.ListRunLemmas.{other_serves, faulty_serves, end_serves, stopped_serves}
use Rattle.table_rows.proofs.GatheringLemmas.{gathering_begins, met_line, met_last_line}
use Rattle.calspan_run.proofs.lists.serve_list.Goals as goal

pub returns-in-Request : goal.returns-in-Request
returns-in-Request g c =
    let left = g.S.Source.left c.args.source.now in
    let start = gathering_begins left _ _ _ c.new-reader.ensures.at c.new-line.ensures c.new-reader.ensures.lines (Consumes-nil left) c.new-rows.ensures in
    let met = c.in-Request.ensures.gathers left (g.S.Source.faults c.args.source.now) (omega arith) start in
    other_serves (g.L.TableList.ends c.args.list.now) left _ _ _ _ _ _ _ _ c.lines.result met.whole c.gather.new.line met.request (rows_said c.gather.new.rows)
    (met_line left _ c.gather.new.reader c.gather.new.line (rows_said c.gather.new.rows) c.lines.result c.lines.ensures.value met) met.says met.holds c.refuse_line.ensures

pub returns-in-LastRequest : goal.returns-in-LastRequest
returns-in-LastRequest g c =
    let left = g.S.Source.left c.args.source.now in
    let start = gathering_begins left _ _ _ c.new-reader.ensures.at c.new-line.ensures c.new-reader.ensures.lines (Consumes-nil left) c.new-rows.ensures in
    let met = c.in-LastRequest.ensures.gathers left (g.S.Source.faults c.args.source.now) (omega arith) start in
    other_serves (g.L.TableList.ends c.args.list.now) left _ _ _ _ _ _ _ _ (c.lines-in-LastRequest.result + 1) (open_line met.bytes) c.gather.new.line met.request (rows_said c.gather.new.rows)
    (met_last_line left _ c.gather.new.reader c.gather.new.line (rows_said c.gather.new.rows) (c.lines-in-LastRequest.result + 1) (ap (λ k. k + 1) c.lines-in-LastRequest.ensures.value) met) met.says met.holds c.refuse_line-in-LastRequest.ensures

pub returns-in-End : goal.returns-in-End
returns-in-End g c =
    let left = g.S.Source.left c.args.source.now in
    let start = gathering_begins left _ _ _ c.new-reader.ensures.at c.new-line.ensures c.new-reader.ensures.lines (Consumes-nil left) c.new-rows.ensures in
    let (text, status, over, ends) = c.list_over.ensures in
    end_serves (g.L.TableList.ends c.args.list.now) left _ _ _ _ _ _ _ _ (rows_said c.gather.new.rows) text status
    (c.in-End.ensures.gathers left (g.S.Source.faults c.args.source.now) (omega arith) start) over ends

pub returns-in-Refused : goal.returns-in-Refused
returns-in-Refused g c =
    let left = g.S.Source.left c.args.source.now in
    let start = gathering_begins left _ _ _ c.new-reader.ensures.at c.new-line.ensures c.new-reader.ensures.lines (Consumes-nil left) c.new-rows.ensures in
    faulty_serves (g.L.TableList.ends c.args.list.now) left _ _ _ _ _ _ _ _ c.in-Refused.number c.in-Refused.why
    (c.in-Refused.ensures.gathers left (g.S.Source.faults c.args.source.now) (omega arith) start) c.refuse_row.ensures

pub returns : goal.returns
returns g c =
    let left = g.S.Source.left c.args.source.now in
    let start = gathering_begins left _ _ _ c.new-reader.ensures.at c.new-line.ensures c.new-reader.ensures.lines (Consumes-nil left) c.new-rows.ensures in
    stopped_serves (g.L.TableList.ends c.args.list.now) left _ c.status_of_stop.result c.in-Stopped.stop _ _ _ _ c.status_of_stop.ensures
    (c.in-Stopped.ensures.gathers left (g.S.Source.faults c.args.source.now) (omega arith) start)
