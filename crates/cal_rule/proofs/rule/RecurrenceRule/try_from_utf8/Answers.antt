use Rattle.cal_rule.proofs.RuleLemmas.{whole-read, whole-refused}
use Rattle.cal_rule.proofs.rule.RecurrenceRule.try_from_utf8.Goals as goal

pub returns-in-Ok-clause-read : goal.returns-in-Ok-clause-read
returns-in-Ok-clause-read c =
    whole-read c.args.kind c.args.bytes.now c.in-Ok.texts c.whole.result c.in-Ok.ensures c.whole.ensures

pub returns-in-Ok-clause-refused : goal.returns-in-Ok-clause-refused
returns-in-Ok-clause-refused c =
    whole-refused c.args.kind c.args.bytes.now c.in-Ok.texts c.whole.result c.in-Ok.ensures c.whole.ensures
