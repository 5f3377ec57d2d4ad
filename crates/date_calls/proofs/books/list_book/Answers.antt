use Rattle.std.proofs.Common.{◌≡◌, ◌∙◌, FitsSigned, rules, to_z, of_z, w64, ap, sym, subst₂, arith}
use Rattle.cal_days.proofs.Signed.{signed}
use Rattle.cal_holidays.specs.Books.{named_rules}
use Rattle.cal_tables.specs.Kinds.{table_contents}
use Rattle.date_calls.specs.Holidays.{AreHolidaysListed, next_rule, window_left}
use Rattle.date_calls.specs.Lists.{next_day}
use Rattle.date_calls.proofs.HolidayLemmas.{holidays-listed}
use Rattle.date_calls.proofs.books.list_book.Goals as goal

pub returns : goal.returns
returns c =
    let w = c.args.window in
    let list = c.holidays-list.result in
    let says = c.holidays-list.ensures in
    let left = c.fill_holidays-written.new.list.rest in
    let fits : FitsSigned w64 c.next_day.result = search rules in
    let same : to_z w64 (of_z w64 c.next_day.result) ≡ c.next_day.result = omega (arith, signed) in
    let next : next_day w.last (window_left left) ≡ to_z w64 (of_z w64 c.next_day.result) =
    sym (same ∙ c.next_day.ensures ∙ ap (λ n. next_day n c.window_left.result) c.last.ensures ∙ ap (next_day w.last) (c.window_left.ensures ∙ ap window_left c.rest-rest.ensures)) in
    let rule : next_rule left ≡ c.next_rule.result = sym (c.next_rule.ensures ∙ ap next_rule c.rest-rest.ensures) in
    subst₂ (λ day number. AreHolidaysListed (table_contents c.args.tables) (named_rules c.args.book.now) w.first w.last c.args.first_rule c.args.items.now c.fill_holidays-written.new.items c.fill_holidays-written.result day number) next rule
    (holidays-listed list.rules _ says.rules w c.args.first_rule list.rest left says.rest says.list says.meant _ _ _ c.fill_holidays-written.ensures)
