use Rattle.std.proofs.Common.{◌≡◌, length, nat_lt}
use Rattle.std.specs.List.{list_any}
use Rattle.cal_rule.specs.Pieces.{pieces_from}
use Rattle.cal_rule.specs.RuleText.{has_long_item}
use Rattle.cal_rule.proofs.reading.has_long_item.Given as goal

abbrev pub invariant-items : goal.invariant-items
invariant-items l = has_long_item l.text ≡ list_any (λ item. nat_lt 2 (length item)) (pieces_from 44 l.rest)

abbrev pub decreases-items : goal.decreases-items
decreases-items l = length (pieces_from 44 l.rest)
