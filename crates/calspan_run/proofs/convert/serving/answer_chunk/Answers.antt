use Rattle.std.proofs.Common.{◌≡◌, ◌++◌, Bool, refl, subst, sym}
use Rattle.cal_tables.specs.Kinds.{TableContents}
use Rattle.command_line.specs.ConvertSaid.{convert_said}
use Rattle.calspan_run.specs.Converted.{line_answer}
use Rattle.calspan_run.specs.Converting.{IsConverting}
use Rattle.calspan_run.specs.Run.{outside}
use Rattle.calspan_run.specs.TextSoFar.{TextSoFar}
use Rattle.calspan_run.specs.Written.{WrotePrefix}
use Rattle.calspan_run.proofs.ConvertRunLemmas.{chunk_done, chunk_stopped, line_on, line_stopped}
use Rattle.calspan_run.proofs.convert.serving.answer_chunk.Goals as goal

pub returns-then-not-next_line-clause-converts : goal.returns-then-not-next_line-clause-converts
returns-then-not-next_line-clause-converts g c old left faults reads rows tables at =
    let h = c.lines.invariant old left faults reads rows tables at in
    chunk_done (convert_said c.args.conversion.now.words) rows old left _ faults _ _ _ _ _ reads h _ _ (c.if-not-next_line.ensures.gives h.bytes h.lines h.rest h.at h.holds) (c.if-not-next_line.ensures.spent refl)

pub returns-in_err-this-clause-converts : goal.returns-in_err-this-clause-converts
returns-in_err-this-clause-converts g c old left faults reads rows tables at =
    let a = convert_said c.args.conversion.now.words in
    let h = c.lines.invariant old left faults reads rows tables at in
    let f = c.if-not-next_line.ensures.gives h.bytes h.lines h.rest h.at h.holds in
    chunk_stopped c.from_residual.result a rows old _ _ _ _ reads c.from_residual.ensures.0
    (line_stopped a rows old left _ faults _ _ _ _ _ reads h _ _ _ _ f c.in_err-this.ensures.cause.failed
    (subst (λ (t : TableContents). WrotePrefix old.taken (g.K.Sink.taken c.answer_line.new.sink) (h.text ++ (line_answer a t f.line).0)) tables (c.in_err-this.ensures.answered old.taken h.text f.line f.holds h.so_far)))

pub lines-preserved : goal.lines-preserved
lines-preserved g c old left faults reads rows tables at =
    let a = convert_said c.args.conversion.now.words in
    let h = c.lines.invariant old left faults reads rows tables at in
    let f = c.if-not-next_line.ensures.gives h.bytes h.lines h.rest h.at h.holds in
    let (is, so_far) = subst (λ (t : TableContents). (c.in_ok-this.this ≡ (line_answer a t f.line).1) × TextSoFar old.taken (g.K.Sink.taken c.answer_line.new.sink) c.answer_line.new.pending.items (h.text ++ (line_answer a t f.line).0)) tables (c.in_ok-this.ensures.answered old.taken h.text f.line f.holds h.so_far) in
    subst (λ (b : Bool). IsConverting a rows old (outside left (g.K.Sink.taken c.answer_line.new.sink) faults (g.K.Sink.faults c.answer_line.new.sink)) c.next_line.new.self c.clear.new.self c.answer_line.new.pending.items b reads) (sym c.either-is_bad.ensures)
    (line_on a rows old left _ faults _ _ _ _ _ reads h _ _ _ _ _ _ _ f is so_far c.clear.ensures c.in_ok-this.ensures.cause.later)
