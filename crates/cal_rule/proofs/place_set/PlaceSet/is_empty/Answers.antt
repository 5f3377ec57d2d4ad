use Rattle.cal_rule.proofs.BlankLemmas.{no_place}
use Rattle.cal_rule.proofs.place_set.PlaceSet.is_empty.Goals as goal

pub returns : goal.returns
returns g c =
    no_place c.args.self.now _ _ c.has_no_number-front.ensures c.has_no_number-back.ensures
