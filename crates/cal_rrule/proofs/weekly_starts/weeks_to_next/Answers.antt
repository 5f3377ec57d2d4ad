use Rattle.cal_rrule.proofs.WeeklyStartLemmas.{next-great, next-small, next-some}
use Rattle.cal_rrule.proofs.weekly_starts.weeks_to_next.Goals as goal

pub returns-then-interval-gt63-clause-value : goal.returns-then-interval-gt63-clause-value
returns-then-interval-gt63-clause-value c = next-great c.args.interval c.if-interval-gt63.true

pub returns-else-interval-gt63-clause-value : goal.returns-else-interval-gt63-clause-value
returns-else-interval-gt63-clause-value c = next-small c.args.interval c.if-interval-gt63.false

pub returns-else-interval-gt63-clause-some : goal.returns-else-interval-gt63-clause-some
returns-else-interval-gt63-clause-some c = next-some c.args.interval c.requires c.if-interval-gt63.false
