use Rattle.std.proofs.Common.{◌≡◌, ◌∙◌, FitsSigned, rules, to_z, of_z, w64, ap, sym, subst, arith}
use Rattle.cal_days.proofs.Signed.{signed}
use Rattle.date_calls.specs.Lists.{IsListed, next_day}
use Rattle.date_calls.proofs.ListLemmas.{listed-first}
use Rattle.date_calls.proofs.lists.list_items.Goals as goal

pub returns : goal.returns
returns g c =
    let between = g.L.WindowList.between c.args.list.now in
    let w = c.args.window in
    let left = g.L.WindowList.left c.fill_list-written.new.list in
    let fits : FitsSigned w64 c.next_day.result = search rules in
    let same : to_z w64 (of_z w64 c.next_day.result) ≡ c.next_day.result = omega (arith, signed) in
    let next : next_day w.last left ≡ to_z w64 (of_z w64 c.next_day.result) =
    sym (same ∙ c.next_day.ensures ∙ ap (λ n. next_day n c.rest.result) c.last.ensures ∙ ap (next_day w.last) c.rest.ensures) in
    subst (λ n. IsListed between w.first w.last c.args.items.now c.fill_list-written.new.items c.fill_list-written.result n) next
    (listed-first between _ w (g.L.WindowList.left c.args.list.now) left _ _ _ c.requires c.fill_list-written.ensures)
