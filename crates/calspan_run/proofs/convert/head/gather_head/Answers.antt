use Rattle.std.proofs.Common.{refl, arith}
use Rattle.calspan_run.proofs.ConvertHeadLemmas.{head_kept, more_read, too_many}
use Rattle.calspan_run.proofs.convert.head.gather_head.Goals as goal

pub returns-in-Some-clause-heads : goal.returns-in-Some-clause-heads
returns-in-Some-clause-heads g c left faults later at =
    c.in-Some.ensures.heads left _ c.chunks.reads (c.chunks.invariant.heading left at) faults (g.S.Source.faults c.chunks.source)

pub returns-then-reads-clause-heads : goal.returns-then-reads-clause-heads
returns-then-reads-clause-heads g c left faults later at =
    too_many left _ _ _ _ _ c.chunks.reads (c.in_default.ensures.heads left _ c.chunks.reads (c.chunks.invariant.heading left at)) c.if-reads.true

pub fill-requires : goal.fill-requires
fill-requires g c = c.in_default.ensures.spent

pub chunks-preserved : goal.chunks-preserved
chunks-preserved g c = record {
  heading = λ left at.
      let h = c.in_default.ensures.heads left _ c.chunks.reads (c.chunks.invariant.heading left at) in
      let (x, took, some, on) = c.in-Some-fill.ensures.some refl in
      more_read left _ _ _ _ _ c.chunks.reads h _ _ x _ refl some took (on h.heading.bytes h.heading.lines h.heading.rest h.heading.at);
  later = omega (arith, c.chunks.invariant.later, c.in-Some-fill.ensures.later);
}

pub returns-in-End-clause-heads : goal.returns-in-End-clause-heads
returns-in-End-clause-heads g c left faults later at =
    let h = c.in_default.ensures.heads left _ c.chunks.reads (c.chunks.invariant.heading left at) in
    let (took, end) = c.in-End.ensures.end refl in
    c.gather_last.ensures left _ _ c.chunks.reads faults _ _ _ h took end

pub returns-in-Fault-clause-heads : goal.returns-in-Fault-clause-heads
returns-in-Fault-clause-heads g c left faults later at =
    let h = c.in_default.ensures.heads left _ c.chunks.reads (c.chunks.invariant.heading left at) in
    let (keeps, rose) = c.in-Fault.ensures.fault refl in
    (omega (arith, later, c.chunks.invariant.later, rose), head_kept left _ _ _ _ _ c.chunks.reads h _ keeps)
