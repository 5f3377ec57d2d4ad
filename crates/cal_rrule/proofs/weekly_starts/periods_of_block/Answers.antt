use Rattle.cal_rrule.proofs.WeeklyStartLemmas.{periods-few, periods-great, periods-small, quotient-some}
use Rattle.cal_rrule.proofs.weekly_starts.periods_of_block.Goals as goal

pub returns-then-interval-gt63-clause-value : goal.returns-then-interval-gt63-clause-value
returns-then-interval-gt63-clause-value c = periods-great c.args.interval c.if-interval-gt63.true

pub returns-else-interval-gt63-clause-value : goal.returns-else-interval-gt63-clause-value
returns-else-interval-gt63-clause-value c = periods-small c.args.interval c.if-interval-gt63.false

pub returns-else-interval-gt63-clause-some : goal.returns-else-interval-gt63-clause-some
returns-else-interval-gt63-clause-some c = quotient-some c.args.interval c.requires c.if-interval-gt63.false

pub returns-else-interval-gt63-clause-few : goal.returns-else-interval-gt63-clause-few
returns-else-interval-gt63-clause-few c = periods-few c.args.interval c.requires c.if-interval-gt63.false
