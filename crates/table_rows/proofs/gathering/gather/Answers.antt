use Rattle.std.proofs.Common.{◌≡◌, refl, ◌∙◌, arith}
use Rattle.byte_io.specs.Lines.{open_line}
use Rattle.byte_io.specs.declared.reader.Next.TheVariants.{Line, Spent}
use Rattle.table_rows.proofs.GatheringLemmas.{line_gathered, met_request, line_refused, line_wanted_memory, chunk_gathered, reading_stopped, took_too_many}
use Rattle.table_rows.proofs.gathering.gather.Goals as goal

-- a chunk that is spent holds no line
spent : ¬ (Spent ≡ Line)
spent e = cc

pub lines-preserved-in-GoesOn : goal.lines-preserved-in-GoesOn
lines-preserved-in-GoesOn g c = record {
  gathering = λ left at.
      let h = c.lines.invariant.gathering left at in
      let f = c.in-Line.ensures.gives h.bytes h.lines h.rest h.at h.holds in
      line_gathered left _ _ _ _ h _ _ f (c.in-Line.ensures.counts refl) _ _ (c.in-GoesOn.ensures f.line f.holds) c.clear.ensures;
  later = c.lines.invariant.later;
}

pub returns-in-Request-clause-gathers : goal.returns-in-Request-clause-gathers
returns-in-Request-clause-gathers g c left faults later at =
    let h = c.lines.invariant.gathering left at in
    let f = c.in-Line.ensures.gives h.bytes h.lines h.rest h.at h.holds in
    let asked = c.in-Request.ensures f.line f.holds in
    met_request left _ _ _ _ h _ _ f (c.in-Line.ensures.counts refl) _ asked.0 asked.1

pub returns-in-Refused-clause-gathers : goal.returns-in-Refused-clause-gathers
returns-in-Refused-clause-gathers g c left faults later at =
    let h = c.lines.invariant.gathering left at in
    let f = c.in-Line.ensures.gives h.bytes h.lines h.rest h.at h.holds in
    line_refused left _ _ _ _ h _ _ f (c.in-Line.ensures.counts refl) _ c.in-Refused.why c.lines-in-Refused.ensures.value (c.in-Refused.ensures f.line f.holds)

pub returns-in-NoMemory-clause-gathers : goal.returns-in-NoMemory-clause-gathers
returns-in-NoMemory-clause-gathers g c left faults later at =
    let h = c.lines.invariant.gathering left at in
    let f = c.in-Line.ensures.gives h.bytes h.lines h.rest h.at h.holds in
    line_wanted_memory left _ _ _ _ h _ _ f (c.in-Line.ensures.counts refl) (c.in-NoMemory.ensures f.line f.holds) faults faults

pub returns-in-TooLong-clause-gathers : goal.returns-in-TooLong-clause-gathers
returns-in-TooLong-clause-gathers g c left faults later at =
    let h = c.lines.invariant.gathering left at in
    took_too_many left _ _ _ _ h (c.in-TooLong.ensures.gives h.bytes h.lines h.rest h.at h.holds) faults faults

pub lines-preserved : goal.lines-preserved
lines-preserved g c = record {
  gathering = λ left at.
      let h = c.lines.invariant.gathering left at in
      let f = c.in-Spent.ensures.gives h.bytes h.lines h.rest h.at h.holds in
      let (x, took, on) = c.in-Some.ensures.some refl in
      chunk_gathered left _ _ _ _ h _ _ f _ _ x (c.in-Spent.ensures.else_same spent) c.in-Some.ensures.same_lines took (on h.bytes h.lines (open_line h.bytes) f.at);
  later = omega (arith, c.lines.invariant.later, c.in-Some.ensures.later);
}

pub returns-in-End-clause-gathers : goal.returns-in-End-clause-gathers
returns-in-End-clause-gathers g c left faults later at =
    let h = c.lines.invariant.gathering left at in
    let f = c.in-Spent.ensures.gives h.bytes h.lines h.rest h.at h.holds in
    let (took, end) = c.in-End.ensures.end refl in
    let same = c.in-End.ensures.same_lines ∙ c.in-Spent.ensures.else_same spent in
    c.gather_last.ensures left _ _ faults _ _ _ _ _ h f (c.lines-in-End.ensures.value ∙ same) same took end

pub returns-in-Fault-clause-gathers : goal.returns-in-Fault-clause-gathers
returns-in-Fault-clause-gathers g c left faults later at =
    let h = c.lines.invariant.gathering left at in
    let f = c.in-Spent.ensures.gives h.bytes h.lines h.rest h.at h.holds in
    let (keeps, rose) = c.in-Fault.ensures.fault refl in
    reading_stopped left _ _ _ _ h _ _ f _ faults _ keeps (omega (arith, later, c.lines.invariant.later, rose))
