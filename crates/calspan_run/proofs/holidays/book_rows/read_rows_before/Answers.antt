use Rattle.std.proofs.Common.{inl, inr}
use Rattle.calspan_run.proofs.BookRowLemmas.{head_goes_on, head_stops, taken_keeps}
use Rattle.calspan_run.proofs.holidays.book_rows.read_rows_before.Goals as goal

pub lines-preserved : goal.lines-preserved
lines-preserved c =
    head_goes_on c.args.bytes.now _ _ _ _ _ _ c.lines.invariant (taken_keeps c.in-Ok.field-0 _ _ _ c.in-Ok.ensures) c.first_line.ensures.lines c.first_line.ensures.behind c.first_line.ensures.fewer

pub returns-in-Err-NoRow : goal.returns-in-Err-NoRow
returns-in-Err-NoRow c = head_stops c.args.bytes.now _ _ c.first_line.result.1.now _ _ _ _ c.lines.invariant (inl c.in-Err-NoRow.field-0-is) c.in-Err-NoRow.ensures c.first_line.ensures.lines

pub returns-in-Err-LongLine : goal.returns-in-Err-LongLine
returns-in-Err-LongLine c = head_stops c.args.bytes.now _ _ c.first_line.result.1.now _ _ _ _ c.lines.invariant (inr c.in-Err-LongLine.field-0-is) c.in-Err-LongLine.ensures c.first_line.ensures.lines
