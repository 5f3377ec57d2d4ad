use Rattle.cal_rule.specs.Lists.{list_read}
use Rattle.cal_rule.specs.Values.{weekday_in_kind}
use Rattle.cal_rule.specs.Sets.{has_weekday, is_weekday_place}
use Rattle.cal_rule.proofs.ListLemmas.{values-of_set}
use Rattle.cal_rule.proofs.said_values.weekdays_in.Goals as goal

pub returns-in-Some : goal.returns-in-Some
returns-in-Some c =
    let list = list_read (weekday_in_kind c.args.kind) c.in-Some.text.now in
    let read = c.read_by_day.result in
    rw (c.in-Some.is, c.unwrap_or.ensures)
    (values-of_set has_weekday is_weekday_place c.new-in-Some.result read list c.new-in-Some.ensures c.read_by_day.ensures)
