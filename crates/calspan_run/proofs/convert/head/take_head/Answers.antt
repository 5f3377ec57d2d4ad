use Rattle.std.proofs.Common.{inl, refl, sym, ◌∙◌}
use Rattle.calspan_run.proofs.ConvertAnswerLemmas.{empty_of}
use Rattle.calspan_run.proofs.ConvertHeadLemmas.{comment_line, empty_dated, plain_line}
use Rattle.calspan_run.proofs.convert.head.take_head.Goals as goal

pub returns-then-is_empty : goal.returns-then-is_empty
returns-then-is_empty c whole holds =
    (empty_dated whole (empty_of whole c.prefix-text.result.now (c.prefix-text.ensures whole holds) (sym c.is_empty.ensures ∙ c.if-is_empty.true)), refl)

pub returns-then-text-eq35 : goal.returns-then-text-eq35
returns-then-text-eq35 c whole holds =
    inl (comment_line whole c.prefix-text.result.now (c.prefix-text.ensures whole holds) (sym c.is_empty.ensures ∙ c.if-is_empty.false) c.if-text-eq35.true, refl)

pub returns : goal.returns
returns c whole holds =
    c.take_row.ensures whole holds (plain_line whole c.prefix-text.result.now (c.prefix-text.ensures whole holds) (sym c.is_empty.ensures ∙ c.if-is_empty.false) c.if-text-eq35.false)
