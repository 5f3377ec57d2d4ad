use Rattle.std.proofs.Common.{refl, arith, subst}
use Rattle.cal_tables.specs.Kinds.{TableContents}
use Rattle.command_line.specs.ConvertSaid.{convert_said}
use Rattle.calspan_run.specs.Streaming.{convert_rules}
use Rattle.calspan_run.proofs.ConvertRunLemmas.{Ends, chunk_on, ends_stream, flush_stopped, input_ends, is_end, read_stopped, too_long}
use Rattle.calspan_run.proofs.convert.serving.serve_from.Goals as goal

pub returns-in-Err : goal.returns-in-Err
returns-in-Err g c old rows tables at = c.in-Err.ensures.converts old _ _ c.chunks.reads rows tables (c.chunks.invariant old rows tables at)

pub returns-in_default : goal.returns-in_default
returns-in_default g c old rows tables at =
    let a = convert_said c.args.conversion.now.words in
    let h = c.in-Ok.ensures.converts old _ _ c.chunks.reads rows tables (c.chunks.invariant old rows tables at) in
    flush_stopped a rows old _ _ _ _ _ _ _ _ c.chunks.reads h _ _ c.in_default.ensures.cause.failed (c.in_default.ensures.text old.taken h.converting.text h.converting.so_far)

pub returns-then-reads : goal.returns-then-reads
returns-then-reads g c old rows tables at =
    let a = convert_said c.args.conversion.now.words in
    let h = c.in-Ok.ensures.converts old _ _ c.chunks.reads rows tables (c.chunks.invariant old rows tables at) in
    too_long a rows old _ _ _ _ _ _ _ _ c.chunks.reads h _ _ _ c.flush.new.pending.items c.if-reads.true (c.in-Ok-flush.ensures.text old.taken h.converting.text h.converting.so_far) c.in-Ok-flush.ensures.none

pub fill-requires : goal.fill-requires
fill-requires g c = c.in-Ok.ensures.spent

pub chunks-preserved : goal.chunks-preserved
chunks-preserved g c old rows tables at =
    let a = convert_said c.args.conversion.now.words in
    let h = c.in-Ok.ensures.converts old _ _ c.chunks.reads rows tables (c.chunks.invariant old rows tables at) in
    let (x, took, some, on) = c.in-Some.ensures.some refl in
    chunk_on a rows old _ _ _ _ _ _ _ _ c.chunks.reads h _ _ _ _ _ _ x _ refl some (c.in-Ok-flush.ensures.text old.taken h.converting.text h.converting.so_far) took (on h.converting.bytes h.converting.lines h.converting.rest h.converting.at)
    c.in-Some.ensures.later c.in-Ok-flush.ensures.cause.later

pub returns-in-End : goal.returns-in-End
returns-in-End g c old rows tables at =
    let a = convert_said c.args.conversion.now.words in
    let h = c.in-Ok.ensures.converts old _ _ c.chunks.reads rows tables (c.chunks.invariant old rows tables at) in
    let (took, end) = c.in-End.ensures.end refl in
    ends_stream (convert_rules a) old.left _ old.taken _ old.read_faults _ old.write_faults _ _ _ (input_ends a rows old _ _ _ _ _ _ _ _ c.chunks.reads h _ took end) c.finish.result _ (is_end _)
    (omega (arith, h.converting.write_later, c.in-Ok-flush.ensures.cause.later))
    (subst (λ (t : TableContents). Ends a t c.finish.result c.in-Ok.bad old.taken (g.K.Sink.taken c.finish.new.sink) (g.K.Sink.faults c.flush.new.sink) (g.K.Sink.faults c.finish.new.sink) h.converting.text h.converting.rest) tables
    (c.finish.ensures old.taken h.converting.text h.converting.rest h.converting.holds (c.in-Ok-flush.ensures.text old.taken h.converting.text h.converting.so_far)))

pub returns-in-Fault : goal.returns-in-Fault
returns-in-Fault g c old rows tables at =
    let a = convert_said c.args.conversion.now.words in
    let h = c.in-Ok.ensures.converts old _ _ c.chunks.reads rows tables (c.chunks.invariant old rows tables at) in
    let (keeps, rose) = c.in-Fault.ensures.fault refl in
    read_stopped a rows old _ _ _ _ _ _ _ _ c.chunks.reads h _ _ _ _ c.flush.new.pending.items (c.in-Ok-flush.ensures.text old.taken h.converting.text h.converting.so_far) c.in-Ok-flush.ensures.none keeps rose
