use Rattle.std.proofs.Common.{rules}
use Rattle.cal_rule.proofs.BlankLemmas.{no_weekday}
use Rattle.cal_rule.proofs.weekday_places.WeekdayPlaces.is_empty.Goals as goal

pub returns : goal.returns
returns c = rw c.has_none-every.ensures
    (no_weekday c.args.self.now _ _ (search rules) (search rules) (search rules) c.have_no_bits-front.ensures c.have_no_bits-back.ensures)
