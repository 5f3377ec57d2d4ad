use Rattle.cal_rule.proofs.BlankLemmas.{no_month}
use Rattle.cal_rule.proofs.month_set.MonthSet.is_empty.Goals as goal

pub returns : goal.returns
returns c = no_month c.args.self.now _ _ c.has_no_bit-regular.ensures c.has_no_bit-leap.ensures
