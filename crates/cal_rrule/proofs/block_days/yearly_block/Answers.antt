use Rattle.std.proofs.Common.{◌≡◌, true, false, rules}
use Rattle.cal_rrule.specs.Periods.{NoWeeks}
use Rattle.cal_rrule.proofs.AskedLemmas.{there-by}
use Rattle.cal_rrule.proofs.block_days.yearly_block.Goals as goal

pub weeks_block-requires-clause-weeks : goal.weeks_block-requires-clause-weeks
weeks_block-requires-clause-weeks g c =
    let a = c.args.asked.now in
    let fails : a.missing.weeks ≡ false = search rules in
    there-by (NoWeeks a.rule) a.missing.weeks c.requires.is_asked.are_missing.no_weeks fails

pub named_block-requires-clause-weeks : goal.named_block-requires-clause-weeks
named_block-requires-clause-weeks g c =
    let a = c.args.asked.now in
    let lacks : a.missing.weeks ≡ true = search rules in
    c.requires.is_asked.are_missing.no_weeks.0 lacks
