use Rattle.std.proofs.Common.{rules}
use Rattle.recurrence_sets.proofs.DaySetLemmas.{run-at, run-empty}
use Rattle.recurrence_sets.proofs.period_days.PeriodDays.insert_days.Goals as goal

pub returns-then-begin-end-clause-days : goal.returns-then-begin-end-clause-days
returns-then-begin-end-clause-days c = λ n above below.
    run-at c.args.self.now.words c.add_run.new.words c.args.self.now.first c.args.from c.args.to n _ _
    (λ i few. c.add_run.ensures.numbers i (search (rules, few))) c.days_before-begin.ensures.low c.days_before-end.ensures.high above below

pub returns-else-begin-end-clause-days : goal.returns-else-begin-end-clause-days
returns-else-begin-end-clause-days c = λ n above below.
    run-at c.args.self.now.words c.args.self.now.words c.args.self.now.first c.args.from c.args.to n _ _
    (λ i few. run-empty c.args.self.now.words _ _ i c.if-begin-end.false)
    c.days_before-begin.ensures.low c.days_before-end.ensures.high above below
