use Rattle.std.proofs.Common.{length}
use Rattle.cal_rule.specs.Pieces.{pieces_from, pieces_of}
use Rattle.cal_rule.specs.Sets.{has_place, is_place}
use Rattle.cal_rule.specs.Places.{place_read}
use Rattle.cal_rule.proofs.ListLemmas.{IsReadingList}
use Rattle.cal_rule.proofs.lists.read_places.Given as goal

abbrev pub invariant-items : goal.invariant-items
invariant-items g l = IsReadingList has_place is_place (place_read l.form) l.set (pieces_of 44 l.text) (pieces_from 44 l.rest)

abbrev pub decreases-items : goal.decreases-items
decreases-items g l = length (pieces_from 44 l.rest)
