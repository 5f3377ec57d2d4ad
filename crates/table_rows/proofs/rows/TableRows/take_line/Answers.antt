use Rattle.std.proofs.Common.{◌≡◌, [], Bool, true, Err, length, refl, sym, subst, ◌∙◌}
use Rattle.byte_io.specs.Buffer.{Holds}
use Rattle.std.specs.Prelude.{nat_lt}
use Rattle.std.specs.Str.Lines.{strip_carriage_return}
use Rattle.request_lines.specs.Lines.{Nothing, SaysAs, is_row, is_silent}
use Rattle.table_rows.specs.Reading.{IsLineTaken}
use Rattle.table_rows.specs.RowsSaid.{rows_said}
use Rattle.table_rows.specs.declared.errors.RowError.{RowError}
use Rattle.table_rows.proofs.ReadingLemmas.{long_is, other_taken}
use Rattle.table_rows.proofs.rows.TableRows.take_line.Goals as goal

pub returns-in-GoesOn : goal.returns-in-GoesOn
returns-in-GoesOn c =
    let whole = c.args.line.now in
    let held : Holds c.extend.new.self whole = c.extend.ensures [] c.new-buffer.ensures in
    c.in-GoesOn.ensures whole held (sym (c.is_silent.ensures whole held) ∙ c.if-is_silent.false)

pub returns-in-Request : goal.returns-in-Request
returns-in-Request c =
    let whole = c.args.line.now in
    let held : Holds c.extend.new.self whole = c.extend.ensures [] c.new-buffer.ensures in
    let ((request, says), same) = c.in-Request.ensures whole held (sym (c.is_silent.ensures whole held) ∙ c.if-is_silent.false) in
    let old = rows_said c.args.self.now in
    let new = rows_said c.gather_said.new.rows in
    subst (λ (e : RowError). IsLineTaken (Err e) whole old new) (sym c.other_line.ensures)
    (other_taken whole c.extend.new.self.over old new (request, says, long_is whole c.extend.new.self request says held) same)

pub returns-in-Refused : goal.returns-in-Refused
returns-in-Refused c =
    let whole = c.args.line.now in
    let held : Holds c.extend.new.self whole = c.extend.ensures [] c.new-buffer.ensures in
    c.in-Refused.ensures whole held (sym (c.is_silent.ensures whole held) ∙ c.if-is_silent.false)

pub returns-in-NoMemory : goal.returns-in-NoMemory
returns-in-NoMemory c =
    let whole = c.args.line.now in
    let held : Holds c.extend.new.self whole = c.extend.ensures [] c.new-buffer.ensures in
    c.in-NoMemory.ensures whole held (sym (c.is_silent.ensures whole held) ∙ c.if-is_silent.false)

pub returns-then-is_silent : goal.returns-then-is_silent
returns-then-is_silent c =
    let whole = c.args.line.now in
    let held : Holds c.extend.new.self whole = c.extend.ensures [] c.new-buffer.ensures in
    let text = strip_carriage_return whole in
    let silent : true ≡ is_silent whole = sym c.if-is_silent.true ∙ c.is_silent.ensures whole held in
    (subst (λ (b : Bool). SaysAs b (nat_lt 512 (length whole)) (is_row text) text Nothing) silent refl, refl)
