use Rattle.std.proofs.Common.{true, sym, ◌∙◌}
use Rattle.calspan_run.proofs.ConvertAnswerLemmas.{empty_of}
use Rattle.calspan_run.proofs.ConvertHeadLemmas.{ends_closed, ends_dated, ends_open, ends_refused, some_of}
use Rattle.calspan_run.proofs.convert.head.gather_last.Goals as goal

pub returns-then-is_empty : goal.returns-then-is_empty
returns-then-is_empty c left l l2 reads faults more reader after h took end =
    let rest = h.heading.rest in
    ends_closed left l reader _ _ _ reads h l2 took end (empty_of rest c.prefix.result.now (c.prefix.ensures rest h.heading.holds) (sym c.is_empty.ensures ∙ c.if-is_empty.true))

pub returns-in-GoesOn : goal.returns-in-GoesOn
returns-in-GoesOn c left l l2 reads faults more reader after h took end =
    let rest = h.heading.rest in
    ends_open left l reader _ _ _ reads h l2 took end (some_of rest c.prefix.result.now (c.prefix.ensures rest h.heading.holds) (sym c.is_empty.ensures ∙ c.if-is_empty.false)) _ (c.in-GoesOn.ensures rest h.heading.holds)

pub returns-in-Dated : goal.returns-in-Dated
returns-in-Dated c left l l2 reads faults more reader after h took end =
    let rest = h.heading.rest in
    ends_dated left l reader _ _ _ reads h l2 took end (some_of rest c.prefix.result.now (c.prefix.ensures rest h.heading.holds) (sym c.is_empty.ensures ∙ c.if-is_empty.false)) _ (c.in-Dated.ensures rest h.heading.holds)

pub returns-in-Refused : goal.returns-in-Refused
returns-in-Refused c left l l2 reads faults more reader after h took end =
    let rest = h.heading.rest in
    (true, ends_refused left l reader _ _ _ reads h l2 took end (some_of rest c.prefix.result.now (c.prefix.ensures rest h.heading.holds) (sym c.is_empty.ensures ∙ c.if-is_empty.false)) _ c.in-Refused.why c.saturating_add.ensures (c.in-Refused.ensures rest h.heading.holds))
