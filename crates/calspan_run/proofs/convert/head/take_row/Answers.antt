use Rattle.std.proofs.Common.{List, ℕ, refl, sym, subst, ◌∙◌}
use Rattle.table_rows.specs.Reading.{IsLineTaken}
use Rattle.table_rows.specs.RowsSaid.{rows_said}
use Rattle.calspan_run.specs.Heading.{TakesLine}
use Rattle.calspan_run.specs.declared.convert.head.HeadLine.{HeadLine}
use Rattle.calspan_run.proofs.ConvertAnswerLemmas.{whole_of}
use Rattle.calspan_run.proofs.ConvertHeadLemmas.{line_taken, long_dated}
use Rattle.calspan_run.proofs.convert.head.take_row.Goals as goal

pub returns-then-is_over : goal.returns-then-is_over
returns-then-is_over c whole holds plain = (long_dated whole plain (sym (c.is_over.ensures whole holds) ∙ c.if-is_over.true), refl)

pub returns : goal.returns
returns c whole holds plain =
    let same = whole_of whole c.prefix.result.now (c.prefix.ensures whole holds) (sym (c.is_over.ensures whole holds) ∙ c.if-is_over.false) in
    subst (λ (x : HeadLine). TakesLine x whole (rows_said c.args.rows.now) (rows_said c.take_line.new.self)) (sym c.effect_of.ensures)
    (line_taken c.take_line.result whole _ _ plain (subst (λ (t : List ℕ). IsLineTaken c.take_line.result t (rows_said c.args.rows.now) (rows_said c.take_line.new.self)) same c.take_line.ensures))
