use Rattle.std.proofs.Common.{length}
use Rattle.cal_rule.specs.Pieces.{pieces_from, pieces_of}
use Rattle.cal_rule.specs.Sets.{has_month, is_month}
use Rattle.cal_rule.specs.Months.{month_read}
use Rattle.cal_rule.proofs.ListLemmas.{IsReadingList}
use Rattle.cal_rule.proofs.lists.read_months.Given as goal

abbrev pub invariant-items : goal.invariant-items
invariant-items l = IsReadingList has_month is_month (month_read l.kind) l.set (pieces_of 44 l.text) (pieces_from 44 l.rest)

abbrev pub decreases-items : goal.decreases-items
decreases-items l = length (pieces_from 44 l.rest)
