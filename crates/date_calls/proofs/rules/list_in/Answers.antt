use Rattle.std.proofs.Common.{◌≡◌, ◌∙◌, FitsSigned, rules, to_z, of_z, w64, ap, sym, subst, arith, ℤ}
use Rattle.cal_days.proofs.Signed.{signed}
use Rattle.cal_rrule.specs.Blocks.{IsOfBlock, start_of}
use Rattle.cal_rrule.specs.Occurrences.{AreOccurrences, IsKept, bounds_of}
use Rattle.cal_types.specs.CalendarList.{IsOn}
use Rattle.recurrence_sets.specs.Occurrences.{IsOfSome}
use Rattle.date_calls.specs.Lists.{next_day}
use Rattle.date_calls.specs.Rules.{IsRuleListed}
use Rattle.date_calls.proofs.RuleLemmas.{rule-listed}
use Rattle.date_calls.proofs.rules.list_in.Goals as goal

pub returns : goal.returns
returns g c =
    let list = (g.C.Calendar.system c.args.calendar).list in
    let t = g.C.Calendar.date_of c.args.calendar c.from_rata_die-start.result in
    let rule = c.args.asked.now.rule in
    let w = c.args.asked.now.window in
    let found = c.rule_occurrences-list.result in
    let says = c.rule_occurrences-list.ensures in
    let p = found.periods in
    let left = c.fill_rule-written.new.list.rest in
    let fits : FitsSigned w64 c.next_day.result = search rules in
    let same : to_z w64 (of_z w64 c.next_day.result) ≡ c.next_day.result = omega (arith, signed) in
    let next : next_day w.last left ≡ to_z w64 (of_z w64 c.next_day.result) =
    sym (same ∙ c.next_day.ensures ∙ ap (λ n. next_day n c.rest.result) c.last.ensures ∙ ap (next_day w.last) c.rest.ensures) in
    record {
      date = t;
      on = subst (λ (n : ℤ). IsOn list n t) c.rata_die.ensures.is c.from_rata_die-start.ensures.on;
      are = subst (λ n. IsRuleListed (AreOccurrences list rule t) w.first w.last c.args.items.now c.fill_rule-written.new.items c.fill_rule-written.result n) next
          (rule-listed (IsOfSome (IsOfBlock (g.C.Calendar.system p.calendar).list p.asked.rule (start_of p.asked))) (IsOfSome (IsKept list rule t))
          says.days found.bounds (bounds_of list rule t) says.bounds w found.rest left says.rest says.items _ _ _ c.fill_rule-written.ensures);
    }
