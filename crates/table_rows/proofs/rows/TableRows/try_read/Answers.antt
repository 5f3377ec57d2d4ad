use Rattle.std.proofs.Common.{ℕ, ◌+◌, ◌≤◌, true, cond, length, List, Some, Ok, Err, arith, ap, sym, subst}
use Rattle.std.proofs.KnownBytes.{Consumes-nil}
use Rattle.byte_io.specs.Plain.{plain_rest}
use Rattle.byte_io.specs.Lines.{lines_in, open_line}
use Rattle.byte_io.specs.Reader.{limit}
use Rattle.table_rows.specs.Gathering.{Stops}
use Rattle.table_rows.specs.Reading.{IsTextRead, lines_read}
use Rattle.table_rows.specs.RowLines.{AreRows, RowTakesMemory}
use Rattle.table_rows.specs.RowsSaid.{rows_said}
use Rattle.table_rows.specs.declared.errors.RowsError.{RowsError}
use Rattle.table_rows.specs.declared.errors.RowsError.TheVariants as text
use Rattle.table_rows.specs.declared.gathering.Stop.{Stop}
use Rattle.table_rows.proofs.GatheringLemmas.{gathering_begins, met_line, met_last_line}
use Rattle.table_rows.proofs.ReadingLemmas.{read_exact, text_ends, text_faulty, text_lacks, text_rows, text_too_long}
use Rattle.table_rows.proofs.rows.TableRows.try_read.Goals as goal

pub returns-in-End-clause-reads : goal.returns-in-End-clause-reads
returns-in-End-clause-reads c =
    let given = plain_rest c.new-source.result in
    let start = gathering_begins (Some given) _ _ _ c.new-reader.ensures.at c.new-line.ensures c.new-reader.ensures.lines (Consumes-nil (Some given)) c.new-rows.ensures in
    let met = c.in-End.ensures.gathers (Some given) 0 (omega arith) start in
    let kept = rows_said c.gather.new.rows in
    subst (λ (b : List ℕ). AreRows (lines_in b true) kept × (length b ≤ limit)) c.new-source.ensures (text_rows given (plain_rest c.gather.new.source) kept met)

pub returns-in-End-clause-exact : goal.returns-in-End-clause-exact
returns-in-End-clause-exact c = read_exact (Ok c.gather.new.rows) c.args.text.now (returns-in-End-clause-reads c)

pub returns-in-Request-clause-reads : goal.returns-in-Request-clause-reads
returns-in-Request-clause-reads c =
    let given = plain_rest c.new-source.result in
    let start = gathering_begins (Some given) _ _ _ c.new-reader.ensures.at c.new-line.ensures c.new-reader.ensures.lines (Consumes-nil (Some given)) c.new-rows.ensures in
    let met = c.in-Request.ensures.gathers (Some given) 0 (omega arith) start in
    let kept = rows_said c.gather.new.rows in
    let other = met_line (Some given) _ c.gather.new.reader c.gather.new.line kept c.lines.result c.lines.ensures.value met in
    let ends = text_ends given (plain_rest c.gather.new.source) c.lines.result met.request kept met.whole c.gather.new.line other met.says met.holds in
    let refused = cond c.gather.new.line.over (text.LongLine c.lines.result) (text.NoRow c.lines.result) in
    subst (λ (e : RowsError). IsTextRead (Err e) c.args.text.now) (sym c.other_line_of.ensures) (subst (λ (b : List ℕ). IsTextRead (Err refused) b) c.new-source.ensures ends)

pub returns-in-Request-clause-exact : goal.returns-in-Request-clause-exact
returns-in-Request-clause-exact c = read_exact (Err c.other_line_of.result) c.args.text.now (returns-in-Request-clause-reads c)

pub returns-in-LastRequest-clause-reads : goal.returns-in-LastRequest-clause-reads
returns-in-LastRequest-clause-reads c =
    let given = plain_rest c.new-source.result in
    let start = gathering_begins (Some given) _ _ _ c.new-reader.ensures.at c.new-line.ensures c.new-reader.ensures.lines (Consumes-nil (Some given)) c.new-rows.ensures in
    let met = c.in-LastRequest.ensures.gathers (Some given) 0 (omega arith) start in
    let kept = rows_said c.gather.new.rows in
    let number = c.lines-in-LastRequest.result + 1 in
    let other = met_last_line (Some given) _ c.gather.new.reader c.gather.new.line kept number (ap (λ k. k + 1) c.lines-in-LastRequest.ensures.value) met in
    let ends = text_ends given (plain_rest c.gather.new.source) number met.request kept (open_line met.bytes) c.gather.new.line other met.says met.holds in
    let refused = cond c.gather.new.line.over (text.LongLine number) (text.NoRow number) in
    subst (λ (e : RowsError). IsTextRead (Err e) c.args.text.now) (sym c.other_line_of-in-LastRequest.ensures) (subst (λ (b : List ℕ). IsTextRead (Err refused) b) c.new-source.ensures ends)

pub returns-in-LastRequest-clause-exact : goal.returns-in-LastRequest-clause-exact
returns-in-LastRequest-clause-exact c = read_exact (Err c.other_line_of-in-LastRequest.result) c.args.text.now (returns-in-LastRequest-clause-reads c)

pub returns-in-Refused-clause-reads : goal.returns-in-Refused-clause-reads
returns-in-Refused-clause-reads c =
    let given = plain_rest c.new-source.result in
    let start = gathering_begins (Some given) _ _ _ c.new-reader.ensures.at c.new-line.ensures c.new-reader.ensures.lines (Consumes-nil (Some given)) c.new-rows.ensures in
    let met = c.in-Refused.ensures.gathers (Some given) 0 (omega arith) start in
    subst (λ (b : List ℕ). IsTextRead (Err (text.Row c.in-Refused.line c.in-Refused.why)) b) c.new-source.ensures (text_faulty given (plain_rest c.gather.new.source) c.in-Refused.line c.in-Refused.why met)

pub returns-in-Refused-clause-exact : goal.returns-in-Refused-clause-exact
returns-in-Refused-clause-exact c = read_exact (Err (text.Row c.in-Refused.line c.in-Refused.why)) c.args.text.now (returns-in-Refused-clause-reads c)

pub returns-in-Stopped-NoMemory-clause-reads : goal.returns-in-Stopped-NoMemory-clause-reads
returns-in-Stopped-NoMemory-clause-reads c =
    let given = plain_rest c.new-source.result in
    let rest = plain_rest c.gather.new.source in
    let start = gathering_begins (Some given) _ _ _ c.new-reader.ensures.at c.new-line.ensures c.new-reader.ensures.lines (Consumes-nil (Some given)) c.new-rows.ensures in
    let met = c.in-Stopped-NoMemory.ensures.gathers (Some given) 0 (omega arith) start in
    let stops = subst (λ (s : Stop). Stops s (Some given) (Some rest) 0 0) c.in-Stopped-NoMemory.field-0-is met in
    subst (λ (b : List ℕ). RowTakesMemory (lines_read b)) c.new-source.ensures (text_lacks given rest 0 0 stops)

pub returns-in-Stopped-TooLong-clause-reads : goal.returns-in-Stopped-TooLong-clause-reads
returns-in-Stopped-TooLong-clause-reads c =
    let given = plain_rest c.new-source.result in
    let rest = plain_rest c.gather.new.source in
    let start = gathering_begins (Some given) _ _ _ c.new-reader.ensures.at c.new-line.ensures c.new-reader.ensures.lines (Consumes-nil (Some given)) c.new-rows.ensures in
    let met = c.in-Stopped-TooLong.ensures.gathers (Some given) 0 (omega arith) start in
    let stops = subst (λ (s : Stop). Stops s (Some given) (Some rest) 0 0) c.in-Stopped-TooLong.field-0-is met in
    subst (λ (b : List ℕ). IsTextRead (Err text.TooLong) b) c.new-source.ensures (text_too_long given rest 0 0 stops)

pub returns-in-Stopped-TooLong-clause-exact : goal.returns-in-Stopped-TooLong-clause-exact
returns-in-Stopped-TooLong-clause-exact c = read_exact (Err text.TooLong) c.args.text.now (returns-in-Stopped-TooLong-clause-reads c)
