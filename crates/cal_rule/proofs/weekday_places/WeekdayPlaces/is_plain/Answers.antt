use Rattle.std.proofs.Common.{rules}
use Rattle.cal_rule.proofs.BlankLemmas.{no_ordinal}
use Rattle.cal_rule.proofs.weekday_places.WeekdayPlaces.is_plain.Goals as goal

pub returns : goal.returns
returns c =
    no_ordinal c.args.self.now _ _ (search rules) (search rules) c.have_no_bits-front.ensures c.have_no_bits-back.ensures
