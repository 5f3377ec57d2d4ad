use Rattle.std.proofs.Common.{◌≡◌, ◌∙◌, length, rules}
use Rattle.recurrence_sets.specs.declared.period_days.PeriodDays.{PeriodDays}
use Rattle.recurrence_sets.proofs.SetLemmas.{day-row}
use Rattle.recurrence_sets.proofs.period_days.PeriodDays.keep_common.Goals as goal

pub returns-clause-row : goal.returns-clause-row
returns-clause-row c = λ n has.
    let long : length c.args.self.now.words ≡ 7 = search rules in
    let new : PeriodDays = record { first = c.args.self.now.first; words = c.keep_common.new.words } in
    day-row new (c.keep_common.ensures.same_length ∙ long) n has
