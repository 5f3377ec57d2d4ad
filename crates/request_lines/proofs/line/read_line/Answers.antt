use Rattle.std.proofs.Common.{◌≡◌, false, Some, None, length, nat_lt, sym, ap, ◌∙◌}
use Rattle.std.proofs.lemmas.List.{take_all}
use Rattle.std.specs.Option.{option_map}
use Rattle.std.specs.Str.Lines.{strip_carriage_return}
use borrow.Author.Tests.{ltb-false}
use Rattle.request_lines.specs.Lines.{said_by}
use Rattle.request_lines.specs.RowSaid.{row_said}
use Rattle.request_lines.proofs.LineLemmas.{short_is, row_said_by, request_said_by}
use Rattle.request_lines.proofs.line.read_line.Goals as goal

pub returns-then-is_row : goal.returns-then-is_row
returns-then-is_row c whole hold loud =
    let over : nat_lt 512 (length whole) ≡ false = sym hold.over ∙ c.if-line.false in
    let prefix = c.deref.ensures.0 ∙ (hold.prefix ∙ take_all 512 whole (ltb-false 512 (length whole) over)) in
    let text = c.without_return-text.ensures ∙ ap strip_carriage_return prefix in
    row_said_by c.without_return-text.result.now (option_map row_said c.read_row.result) (sym c.is_row.ensures ∙ c.if-is_row.true) c.read_row.ensures
    ∙ (ap said_by text ∙ sym (short_is whole loud over))

pub returns-in-None : goal.returns-in-None
returns-in-None c whole hold loud =
    let over : nat_lt 512 (length whole) ≡ false = sym hold.over ∙ c.if-line.false in
    let prefix = c.deref.ensures.0 ∙ (hold.prefix ∙ take_all 512 whole (ltb-false 512 (length whole) over)) in
    let text = c.without_return-text.ensures ∙ ap strip_carriage_return prefix in
    request_said_by c.without_return-text.result.now None (sym c.is_row.ensures ∙ c.if-is_row.false) c.in-None.ensures
    ∙ (ap said_by text ∙ sym (short_is whole loud over))

pub returns-in-Some : goal.returns-in-Some
returns-in-Some c whole hold loud =
    let over : nat_lt 512 (length whole) ≡ false = sym hold.over ∙ c.if-line.false in
    let prefix = c.deref.ensures.0 ∙ (hold.prefix ∙ take_all 512 whole (ltb-false 512 (length whole) over)) in
    let text = c.without_return-text.ensures ∙ ap strip_carriage_return prefix in
    request_said_by c.without_return-text.result.now (Some _) (sym c.is_row.ensures ∙ c.if-is_row.false) c.in-Some.ensures
    ∙ (ap said_by text ∙ sym (short_is whole loud over))
