use Rattle.std.proofs.Common.{◌≡◌, length, sym, subst, rules}
use Rattle.std.specs.Prelude.{IsTrue, ◌<ℤ◌}
use Rattle.recurrence_sets.specs.Days.{HasCount}
use Rattle.recurrence_sets.specs.PeriodBits.{has_day}
use Rattle.recurrence_sets.proofs.SetLemmas.{before-count}
use Rattle.recurrence_sets.proofs.period_days.PeriodDays.count_before.Goals as goal

pub returns : goal.returns
returns c =
    let d = c.args.self.now in
    let long : length d.words ≡ 7 = search rules in
    subst (HasCount (λ n. IsTrue (has_day d n) × (n <ℤ c.args.day))) (sym c.numbers_below.ensures)
    (before-count d long c.args.day c.offset_of.result c.offset_of.ensures.before c.offset_of.ensures.from)
