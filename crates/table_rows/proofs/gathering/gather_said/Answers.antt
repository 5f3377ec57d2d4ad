use Rattle.std.proofs.Common.{refl, sym}
use Rattle.std.specs.Option.{option_map}
use Rattle.request_lines.specs.RowSaid.{row_said}
use Rattle.table_rows.specs.RowsSaid.{rows_said}
use Rattle.table_rows.proofs.GatheringLemmas.{line_kept, line_faulty, line_takes, line_requests}
use Rattle.table_rows.proofs.gathering.gather_said.Goals as goal

pub returns-in-Kept : goal.returns-in-Kept
returns-in-Kept c whole holds loud =
    line_kept whole (option_map row_said c.in-GivesRow.row) (rows_said c.args.rows.now) (rows_said c.take.new.self) (sym (c.in-GivesRow.ensures whole holds loud)) c.in-Kept.ensures

pub returns-in-Refused : goal.returns-in-Refused
returns-in-Refused c whole holds loud =
    (line_faulty whole (option_map row_said c.in-GivesRow.row) (rows_said c.args.rows.now) c.in-Refused.why (sym (c.in-GivesRow.ensures whole holds loud)) c.in-Refused.ensures.0, c.in-Refused.ensures.1)

pub returns-in-NoMemory : goal.returns-in-NoMemory
returns-in-NoMemory c whole holds loud = (line_takes whole _ (sym (c.in-GivesRow.ensures whole holds loud)) c.in-NoMemory.ensures.0, c.in-NoMemory.ensures.1)

pub returns-in-Requests : goal.returns-in-Requests
returns-in-Requests c whole holds loud =
    let (request, asks) = c.in-Requests.ensures whole holds loud in
    (line_requests whole request (sym asks), refl)
