use Rattle.std.proofs.Common.{◌≡◌, ℤ, subst, sym, arith, to_z, of_z, w64}
use Rattle.cal_days.proofs.Signed.{signed}
use Rattle.cal_types.specs.CalendarList.{IsOn}
use Rattle.cal_types.proofs.ListLemmas.{on-finds}
use Rattle.cal_rrule.specs.Blocks.{start_of}
use Rattle.cal_rrule.proofs.BlocksApartLemmas.{blocks-apart}
use Rattle.cal_rrule.proofs.BlockLemmas.{start-asked, start-is}
use Rattle.cal_rrule.proofs.rule_periods.RulePeriods.new.Goals as goal

pub returns-clause-start : goal.returns-clause-start
returns-clause-start g c = λ t on.
    let list = (g.C.Calendar.system c.args.calendar).list in
    let own : to_z w64 (of_z w64 c.to_i64_date-day.result) ≡ c.args.day =
    omega (arith, signed, c.to_i64_date-day.ensures.value, c.requires.valid) in
    let here = subst (λ (n : ℤ). IsOn list n t) (sym own) on in
    start-is list t c.new-asked.result (c.new-asked.ensures.asked list t c.month_of-month.ensures.look here)

pub invariant_of-result : goal.invariant_of-result
invariant_of-result g c =
    let list = (g.C.Calendar.system c.args.calendar).list in
    let law = g.met.C.Calendar.lawful c.args.calendar in
    let asked = c.new-asked.result in
    let found = on-finds list law (to_z w64 (of_z w64 c.to_i64_date-day.result)) in
    let is = start-asked list found.0 asked (c.new-asked.ensures.asked list found.0 c.month_of-month.ensures.look found.1) in
    record {
      is_asked = is;
      nearby = c.requires.nearby;
      are_apart = blocks-apart list law asked.rule asked.missing is.are_missing (start_of asked);
    }
