use Rattle.std.proofs.Common.{◌≡◌, false, length, nat_lt, sym, ap, ◌∙◌}
use Rattle.std.proofs.lemmas.List.{take_all}
use Rattle.std.specs.Option.{option_map}
use Rattle.std.specs.Str.Lines.{strip_carriage_return}
use borrow.Author.Tests.{ltb-false}
use Rattle.request_lines.specs.Lines.{Long, said_by}
use Rattle.request_lines.specs.RowSaid.{row_said}
use Rattle.request_lines.proofs.LineLemmas.{short_is, long_is, row_said_by, asked_by}
use Rattle.request_lines.proofs.line.line_kind.Goals as goal

pub returns-then-line : goal.returns-then-line
returns-then-line c whole hold loud = (Long, long_is whole loud (sym hold.over ∙ c.if-line.true))

pub returns-then-is_row : goal.returns-then-is_row
returns-then-is_row c whole hold loud =
    let over : nat_lt 512 (length whole) ≡ false = sym hold.over ∙ c.if-line.false in
    let prefix = c.deref.ensures.0 ∙ (hold.prefix ∙ take_all 512 whole (ltb-false 512 (length whole) over)) in
    let text = c.without_return-text.ensures ∙ ap strip_carriage_return prefix in
    short_is whole loud over
    ∙ (ap said_by (sym text) ∙ sym (row_said_by c.without_return-text.result.now (option_map row_said c.read_row.result) (sym c.is_row.ensures ∙ c.if-is_row.true) c.read_row.ensures))

pub returns : goal.returns
returns c whole hold loud =
    let over : nat_lt 512 (length whole) ≡ false = sym hold.over ∙ c.if-line.false in
    let prefix = c.deref.ensures.0 ∙ (hold.prefix ∙ take_all 512 whole (ltb-false 512 (length whole) over)) in
    let text = c.without_return-text.ensures ∙ ap strip_carriage_return prefix in
    let (request, asks) = asked_by c.without_return-text.result.now (sym c.is_row.ensures ∙ c.if-is_row.false) in
    (request, short_is whole loud over ∙ (ap said_by (sym text) ∙ asks))
