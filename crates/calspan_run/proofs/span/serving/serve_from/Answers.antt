use Rattle.std.proofs.Common.{◌≡◌, ◌++◌, refl, subst, ◌∙◌, inr, arith}
use Rattle.byte_io.specs.Lines.{open_line}
use Rattle.byte_io.specs.declared.reader.Next.TheVariants.{Line, Spent}
use Rattle.request_lines.specs.Lines.{line_of}
use Rattle.calspan_run.specs.Progress.{standing_of}
use Rattle.calspan_run.specs.Answers.{Answering, IsAnswerTo, status_at}
use Rattle.table_rows.specs.TableRows.{contents_of}
use Rattle.calspan_run.specs.declared.span.answers.Answered.{Answered}
use Rattle.calspan_run.specs.declared.status.Status.TheVariants.{TableRefused}
use Rattle.calspan_run.proofs.UnderwayLemmas.{line_on, chunk_on, write_stopped, read_stopped, too_much, late_ends, input_ends, span_ends, status_is_end}
use Rattle.calspan_run.proofs.span.serving.serve_from.Goals as goal

-- a chunk that is spent holds no line
spent : ¬ (Spent ≡ Line)
spent e = cc

pub returns-in-Err : goal.returns-in-Err
returns-in-Err g c old rows tables at =
    let h = c.lines.invariant old rows tables at in
    let f = c.in-Line.ensures.gives h.bytes h.lines h.rest h.at h.holds in
    write_stopped old _ _ _ _ _ _ _ rows c.lines.progress.refused h _ _ c.in-Err.ensures.cause.failed
    (c.in-Err.ensures.answered old.taken h.text f.line rows tables f.holds h.so_far)

pub returns-in-Ok-Stopped : goal.returns-in-Ok-Stopped
returns-in-Ok-Stopped g c old rows tables at =
    let h = c.lines.invariant old rows tables at in
    let f = c.in-Line.ensures.gives h.bytes h.lines h.rest h.at h.holds in
    let (added, answer, on) = c.in-Ok-Stopped.ensures.answered old.taken h.text f.line rows tables f.holds h.so_far in
    let ended = subst (λ (a : Answered). IsAnswerTo (line_of f.line) (contents_of rows) c.lines-in-Line.result (Answering c.lines.progress.refused) added (standing_of a)) c.in-Ok-Stopped.field-0-is answer in
    span_ends old _ _ _ _ _ (h.text ++ added) TableRefused c.conclude.result (inr (inr refl)) (omega (arith, h.write_later, c.in-Ok-Stopped.ensures.cause.later))
    (late_ends old _ _ _ _ _ _ _ rows c.lines.progress.refused h _ _ c.lines-in-Line.result added f (c.in-Line.ensures.counts refl) c.lines-in-Line.ensures.value ended)
    (c.conclude.ensures old.taken (h.text ++ added) on)

pub lines-preserved-in-Line : goal.lines-preserved-in-Line
lines-preserved-in-Line g c old rows tables at =
    let h = c.lines.invariant old rows tables at in
    let f = c.in-Line.ensures.gives h.bytes h.lines h.rest h.at h.holds in
    let (added, answer, on) = c.in-Ok-GoesOn.ensures.answered old.taken h.text f.line rows tables f.holds h.so_far in
    let next = subst (λ (a : Answered). IsAnswerTo (line_of f.line) (contents_of rows) c.lines-in-Line.result (Answering c.lines.progress.refused) added (standing_of a)) c.in-Ok-GoesOn.field-0-is answer in
    line_on old _ _ _ _ _ _ _ rows c.lines.progress.refused h _ _ _ _ _ _ added c.lines-in-Line.result _ f (c.in-Line.ensures.counts refl) c.lines-in-Line.ensures.value next on c.clear.ensures c.in-Ok-GoesOn.ensures.cause.later

pub returns-in_default : goal.returns-in_default
returns-in_default g c old rows tables at =
    let h = c.lines.invariant old rows tables at in
    write_stopped old _ _ _ _ _ _ _ rows c.lines.progress.refused h _ _ c.in_default.ensures.cause.failed (c.in_default.ensures.text old.taken h.text h.so_far)

pub returns-in-TooLong : goal.returns-in-TooLong
returns-in-TooLong g c old rows tables at =
    let h = c.lines.invariant old rows tables at in
    too_much old _ _ _ _ _ _ _ rows c.lines.progress.refused h _ _ c.flush.new.pending.items (c.in-TooLong.ensures.gives h.bytes h.lines h.rest h.at h.holds) (c.in-Ok.ensures.text old.taken h.text h.so_far) c.in-Ok.ensures.none

pub returns-in_default-flush : goal.returns-in_default-flush
returns-in_default-flush g c old rows tables at =
    let h = c.lines.invariant old rows tables at in
    write_stopped old _ _ _ _ _ _ _ rows c.lines.progress.refused h _ _ c.in_default-flush.ensures.cause.failed (c.in_default-flush.ensures.text old.taken h.text h.so_far)

pub lines-preserved : goal.lines-preserved
lines-preserved g c old rows tables at =
    let h = c.lines.invariant old rows tables at in
    let f = c.in-Spent.ensures.gives h.bytes h.lines h.rest h.at h.holds in
    let (x, took, on) = c.in-Some.ensures.some refl in
    chunk_on old _ _ _ _ _ _ _ rows c.lines.progress.refused h _ _ _ _ _ _ _ _ x f (c.in-Spent.ensures.else_same spent) c.in-Some.ensures.same_lines
    (c.in-Ok-flush.ensures.text old.taken h.text h.so_far) took (on h.bytes h.lines (open_line h.bytes) f.at) c.in-Some.ensures.later c.in-Ok-flush.ensures.cause.later

pub returns-in-End : goal.returns-in-End
returns-in-End g c old rows tables at =
    let h = c.lines.invariant old rows tables at in
    let f = c.in-Spent.ensures.gives h.bytes h.lines h.rest h.at h.holds in
    let (took, end) = c.in-End.ensures.end refl in
    let count = c.lines-in-End.ensures.value ∙ (c.in-End.ensures.same_lines ∙ (c.in-Spent.ensures.else_same spent ∙ h.counted)) in
    let (text, s, behind, ends) = c.finish.ensures old.taken h.lines h.text (open_line h.bytes) rows tables count f.holds h.answers (c.in-Ok-flush.ensures.text old.taken h.text h.so_far) in
    span_ends old _ _ _ _ _ text (status_at s) c.finish.result (status_is_end s) (omega (arith, h.write_later, c.in-Ok-flush.ensures.cause.later))
    (input_ends old _ _ _ _ _ _ _ rows c.lines.progress.refused h _ _ _ text s f took end behind) ends

pub returns-in-Fault : goal.returns-in-Fault
returns-in-Fault g c old rows tables at =
    let h = c.lines.invariant old rows tables at in
    let f = c.in-Spent.ensures.gives h.bytes h.lines h.rest h.at h.holds in
    let (keeps, rose) = c.in-Fault.ensures.fault refl in
    read_stopped old _ _ _ _ _ _ _ rows c.lines.progress.refused h _ _ _ _ _ _ c.flush-in-lines.new.pending.items f (c.in-Ok-flush.ensures.text old.taken h.text h.so_far) c.in-Ok-flush.ensures.none keeps rose
