use Rattle.std.proofs.Common.{◌∙◌, ap}
use Rattle.cal_rule.specs.Pieces.{pieces_from}
use Rattle.cal_rule.specs.Sets.{has_place, is_place}
use Rattle.cal_rule.specs.Places.{place_read}
use Rattle.cal_rule.proofs.ListLemmas.{reading-goes_on}
use Rattle.cal_rule.proofs.lists.read_places.Goals as goal

pub items-preserved : goal.items-preserved
items-preserved g c =
    let first = ap (pieces_from 44) c.in-Some.is ∙ c.cut.ensures in
    reading-goes_on has_place is_place (place_read c.args.form) c.items.set _ _ _ _ _ _ first c.items.invariant c.in_ok-place.ensures.value c.insert.ensures
