use Rattle.std.proofs.Common.{subst}
use Rattle.icu_calendar.specs.declared.Overflow.TheVariants.{Reject}
use Rattle.icu_calendar.specs.AnySystem.{any_system, any_date}
use Rattle.icu_calendar.specs.Adding.{IsSum}
use Rattle.icu_calendar.specs.Dates.{answer_by}
use Rattle.calendar_uses.specs.Recurrence.{later_by}
use Rattle.icu_calendar.proofs.SumLemmas.{sum-lacks}
use Rattle.calendar_uses.proofs.uses.months_later.Goals as goal

pub returns-clause-lacks_day : goal.returns-clause-lacks_day
returns-clause-lacks_day c last refused =
    let calendar = c.args.first.calendar in
    let s = any_system calendar in
    let t = any_date calendar c.args.first.inner in
    let sum = subst (λ r. IsSum s.list s.year_shift t (later_by c.args.months) Reject (answer_by (λ d. any_date calendar d.inner) r)) refused c.try_added_with_options.ensures.sum in
    sum-lacks s.list (later_by c.args.months) last s.year_shift t sum
