use Rattle.cal_rule.specs.Lists.{list_read}
use Rattle.cal_rule.specs.Months.{month_read}
use Rattle.cal_rule.specs.Sets.{has_month, is_month}
use Rattle.cal_rule.proofs.ListLemmas.{values-of_set}
use Rattle.cal_rule.proofs.said_values.months_in.Goals as goal

pub returns-in-Some : goal.returns-in-Some
returns-in-Some c =
    let list = list_read (month_read c.args.kind) c.in-Some.text.now in
    let read = c.read_months.result in
    rw (c.in-Some.is, c.unwrap_or.ensures)
    (values-of_set has_month is_month c.new-in-Some.result read list c.new-in-Some.ensures c.read_months.ensures)
