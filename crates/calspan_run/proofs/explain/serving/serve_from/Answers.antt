use Rattle.std.proofs.Common.{◌≡◌, Bool, false, refl, sym, subst, ◌∙◌, arith}
use Rattle.byte_io.specs.Lines.{open_line}
use Rattle.byte_io.specs.declared.reader.Next.TheVariants.{Line, Spent}
use Rattle.table_rows.specs.Gathering.{with_open_line}
use Rattle.row_faults.specs.declared.stages.Stage.TheVariants.{Rows}
use Rattle.calspan_run.specs.Explained.{any_malformed, explained}
use Rattle.calspan_run.specs.Explaining.{IsExplaining}
use Rattle.calspan_run.specs.Run.{outside}
use Rattle.calspan_run.proofs.ExplainLemmas.{chunk_on, explain_ends, input_ends, line_on, line_stopped, read_stopped, too_much, write_stopped}
use Rattle.calspan_run.proofs.explain.serving.serve_from.Goals as goal

-- a chunk that is spent holds no line
spent : ¬ (Spent ≡ Line)
spent e = cc

pub returns-in-Err : goal.returns-in-Err
returns-in-Err g c old at =
    let h = c.lines.invariant old at in
    let f = c.in-Line.ensures.gives h.bytes h.lines h.rest h.at h.holds in
    line_stopped old _ _ _ _ _ _ _ _ _ h _ _ _ _ c.lines-in-Line.result f (c.in-Line.ensures.counts refl) c.lines-in-Line.ensures.value c.in-Err.ensures.cause.failed
    (c.in-Err.ensures.answered old.taken (explained Rows 1 h.lines) f.line f.holds h.so_far)

pub lines-preserved-in-Line : goal.lines-preserved-in-Line
lines-preserved-in-Line g c old at =
    let h = c.lines.invariant old at in
    let f = c.in-Line.ensures.gives h.bytes h.lines h.rest h.at h.holds in
    let (said, on) = c.in-Ok.ensures.answered old.taken (explained Rows 1 h.lines) f.line f.holds h.so_far in
    subst (λ (b : Bool). IsExplaining old (outside (g.S.Source.left c.lines.source) (g.K.Sink.taken c.explain_line.new.sink) (g.S.Source.faults c.lines.source) (g.K.Sink.faults c.explain_line.new.sink)) c.next_line.new.self c.clear.new.self c.explain_line.new.pending.items b c.after-stage.result) (sym c.either-is_malformed.ensures)
    (line_on old _ _ _ _ _ _ _ _ _ h _ _ _ _ _ _ c.lines-in-Line.result _ _ f (c.in-Line.ensures.counts refl) c.lines-in-Line.ensures.value said (c.after-stage.ensures f.line f.holds) on c.clear.ensures c.in-Ok.ensures.cause.later)

pub returns-in_default : goal.returns-in_default
returns-in_default g c old at =
    let h = c.lines.invariant old at in
    write_stopped old _ _ _ _ _ _ _ _ _ h _ _ c.in_default.ensures.cause.failed (c.in_default.ensures.text old.taken (explained Rows 1 h.lines) h.so_far)

pub returns-in-TooLong : goal.returns-in-TooLong
returns-in-TooLong g c old at =
    let h = c.lines.invariant old at in
    too_much old _ _ _ _ _ _ _ _ _ h _ _ c.flush.new.pending.items (c.in-TooLong.ensures.gives h.bytes h.lines h.rest h.at h.holds) (c.in-Ok-flush.ensures.text old.taken (explained Rows 1 h.lines) h.so_far) c.in-Ok-flush.ensures.none

pub returns-in_default-flush : goal.returns-in_default-flush
returns-in_default-flush g c old at =
    let h = c.lines.invariant old at in
    write_stopped old _ _ _ _ _ _ _ _ _ h _ _ c.in_default-flush.ensures.cause.failed (c.in_default-flush.ensures.text old.taken (explained Rows 1 h.lines) h.so_far)

pub lines-preserved : goal.lines-preserved
lines-preserved g c old at =
    let h = c.lines.invariant old at in
    let f = c.in-Spent.ensures.gives h.bytes h.lines h.rest h.at h.holds in
    let (x, took, on) = c.in-Some.ensures.some refl in
    chunk_on old _ _ _ _ _ _ _ _ _ h _ _ _ _ _ _ _ _ x f (c.in-Spent.ensures.else_same spent) c.in-Some.ensures.same_lines
    (c.in-Ok-flush-2.ensures.text old.taken (explained Rows 1 h.lines) h.so_far) took (on h.bytes h.lines (open_line h.bytes) f.at) c.in-Some.ensures.later c.in-Ok-flush-2.ensures.cause.later

pub returns-in-End : goal.returns-in-End
returns-in-End g c old at =
    let h = c.lines.invariant old at in
    let f = c.in-Spent.ensures.gives h.bytes h.lines h.rest h.at h.holds in
    let (took, end) = c.in-End.ensures.end refl in
    let count = c.lines-in-End.ensures.value ∙ (c.in-End.ensures.same_lines ∙ (c.in-Spent.ensures.else_same spent ∙ h.counted)) in
    let all = with_open_line h.lines (open_line h.bytes) in
    let ends = c.finish.ensures old.taken h.lines (open_line h.bytes) count h.known h.stands f.holds (c.in-Ok-flush-2.ensures.text old.taken (explained Rows 1 h.lines) h.so_far) in
    explain_ends old _ _ _ _ _ (explained Rows 1 all) (any_malformed false Rows 1 all) c.finish.result (omega (arith, h.write_later, c.in-Ok-flush-2.ensures.cause.later))
    (input_ends old _ _ _ _ _ _ _ _ _ h _ _ _ f took end) ends

pub returns-in-Fault : goal.returns-in-Fault
returns-in-Fault g c old at =
    let h = c.lines.invariant old at in
    let f = c.in-Spent.ensures.gives h.bytes h.lines h.rest h.at h.holds in
    let (keeps, rose) = c.in-Fault.ensures.fault refl in
    read_stopped old _ _ _ _ _ _ _ _ _ h _ _ _ _ _ _ c.flush-in-lines.new.pending.items f (c.in-Ok-flush-2.ensures.text old.taken (explained Rows 1 h.lines) h.so_far) c.in-Ok-flush-2.ensures.none keeps rose
