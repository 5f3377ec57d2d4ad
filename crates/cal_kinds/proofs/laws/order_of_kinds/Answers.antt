use Rattle.std.proofs.Common.{◌∙◌}
use Rattle.cal_kinds.proofs.KindPlaceLemmas.{cmp-by_places}
use Rattle.cal_kinds.proofs.laws.order_of_kinds.Goals as goal

pub returns : goal.returns
returns c = c.cmp.ensures ∙ cmp-by_places c.args.first c.args.second
