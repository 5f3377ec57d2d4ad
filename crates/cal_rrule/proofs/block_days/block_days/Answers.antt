use Rattle.std.proofs.Common.{◌∙◌, sym}
use Rattle.cal_rrule.proofs.block_days.block_days.Goals as goal

pub yearly_block-requires-clause-yearly : goal.yearly_block-requires-clause-yearly
yearly_block-requires-clause-yearly g c = sym c.frequency.ensures ∙ c.in-Yearly.is

pub monthly_block-requires-clause-monthly : goal.monthly_block-requires-clause-monthly
monthly_block-requires-clause-monthly g c = sym c.frequency.ensures ∙ c.in-Monthly.is

pub weekly_block-requires-clause-weekly : goal.weekly_block-requires-clause-weekly
weekly_block-requires-clause-weekly g c = sym c.frequency.ensures ∙ c.in-Weekly.is

pub daily_block-requires-clause-daily : goal.daily_block-requires-clause-daily
daily_block-requires-clause-daily g c = sym c.frequency.ensures ∙ c.in-Daily.is
