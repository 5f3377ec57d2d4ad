use Rattle.std.proofs.Common.{◌∙◌, ap}
use Rattle.cal_rule.specs.Pieces.{pieces_from}
use Rattle.cal_rule.specs.Sets.{has_weekday, is_weekday_place}
use Rattle.cal_rule.specs.WeekdayItems.{weekday_item_read}
use Rattle.cal_rule.proofs.ListLemmas.{reading-goes_on}
use Rattle.cal_rule.proofs.lists.read_weekdays.Goals as goal

pub items-preserved : goal.items-preserved
items-preserved c =
    let first = ap (pieces_from 44) c.in-Some.is ∙ c.cut.ensures in
    reading-goes_on has_weekday is_weekday_place (weekday_item_read c.args.most) c.items.set _ _ _ _ _ _ first c.items.invariant c.in_ok-weekday.ensures.value c.insert.ensures
