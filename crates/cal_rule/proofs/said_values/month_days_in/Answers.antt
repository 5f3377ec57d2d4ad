use Rattle.cal_rule.specs.Lists.{list_read}
use Rattle.cal_rule.specs.Values.{month_day_read}
use Rattle.cal_rule.specs.Sets.{has_place, is_place}
use Rattle.cal_rule.proofs.ListLemmas.{values-of_set}
use Rattle.cal_rule.proofs.said_values.month_days_in.Goals as goal

pub returns-in-Some : goal.returns-in-Some
returns-in-Some c =
    let list = list_read (month_day_read c.args.kind) c.in-Some.text.now in
    let read = c.read_month_days.result in
    rw (c.in-Some.is, c.unwrap_or.ensures)
    (values-of_set has_place is_place c.new-in-Some.result read list c.new-in-Some.ensures c.read_month_days.ensures)
