use Rattle.std.proofs.Common.{false, refl}
use Rattle.calspan_run.proofs.ConvertHeadLemmas.{chunk_headed, line_headed, met_date, row_refused}
use Rattle.calspan_run.proofs.convert.head.gather_chunk.Goals as goal

pub returns-then-not-next_line-clause-heads : goal.returns-then-not-next_line-clause-heads
returns-then-not-next_line-clause-heads c left now reads at =
    let h = c.lines.invariant left now reads at in
    chunk_headed left now _ _ _ _ reads h _ _ (c.if-not-next_line.ensures.gives h.bytes h.lines h.rest h.at h.holds) (c.if-not-next_line.ensures.spent refl)

pub lines-preserved : goal.lines-preserved
lines-preserved c left now reads at =
    let h = c.lines.invariant left now reads at in
    let f = c.if-not-next_line.ensures.gives h.bytes h.lines h.rest h.at h.holds in
    line_headed left now _ _ _ _ reads h _ _ f _ _ _ c.saturating_add.ensures (c.in-GoesOn.ensures f.line f.holds) c.clear.ensures

pub returns-in-Dated-clause-heads : goal.returns-in-Dated-clause-heads
returns-in-Dated-clause-heads c left now reads at faults more =
    let h = c.lines.invariant left now reads at in
    let f = c.if-not-next_line.ensures.gives h.bytes h.lines h.rest h.at h.holds in
    met_date left now _ _ _ _ reads h _ _ f _ (c.in-Dated.ensures f.line f.holds)

pub returns-in-Refused-clause-heads : goal.returns-in-Refused-clause-heads
returns-in-Refused-clause-heads c left now reads at faults more =
    let h = c.lines.invariant left now reads at in
    let f = c.if-not-next_line.ensures.gives h.bytes h.lines h.rest h.at h.holds in
    (false, row_refused left now _ _ _ _ reads h _ _ f _ c.in-Refused.why c.saturating_add.ensures (c.in-Refused.ensures f.line f.holds))
