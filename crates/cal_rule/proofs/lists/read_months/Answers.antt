use Rattle.std.proofs.Common.{◌∙◌, ap}
use Rattle.cal_rule.specs.Pieces.{pieces_from}
use Rattle.cal_rule.specs.Sets.{has_month, is_month}
use Rattle.cal_rule.specs.Months.{month_read}
use Rattle.cal_rule.proofs.ListLemmas.{reading-goes_on}
use Rattle.cal_rule.proofs.lists.read_months.Goals as goal

pub items-preserved : goal.items-preserved
items-preserved c =
    let first = ap (pieces_from 44) c.in-Some.is ∙ c.cut.ensures in
    reading-goes_on has_month is_month (month_read c.args.kind) c.items.set _ _ _ _ _ _ first c.items.invariant c.in_ok-month.ensures.value c.insert.ensures
