use Rattle.cal_rule.specs.declared.frequency.Frequency.TheVariants.{Yearly}
use Rattle.cal_rrule.specs.Blocks.{start_of}
use Rattle.cal_rrule.proofs.BlockLemmas.{block-is}
use Rattle.cal_rrule.proofs.block_days.named_block.Goals as goal

pub returns-clause-days : goal.returns-clause-days
returns-clause-days g c =
    let list = (g.C.Calendar.system c.args.calendar.now).list in
    let a = c.args.asked.now in
    block-is list a.rule (start_of a) Yearly c.requires.yearly c.args.block c.args.last c.year_block.result
    (c.year_block.ensures.days (start_of a) c.requires.is_asked)
