use Rattle.std.proofs.Common.{◌∙◌, sym, pos, neg_ℤ}
use Rattle.cal_days.proofs.RangeLemmas.{is_between-true}
use Rattle.cal_arith.proofs.WordLemmas.{field-rule}
use Rattle.cal_arith.proofs.fields.named_year.Goals as goal

pub returns-then-can_be_named-clause-range : goal.returns-then-can_be_named-clause-range
returns-then-can_be_named-clause-range g c = field-rule _ (is_between-true (neg_ℤ (pos 1040000)) (pos 1040000) _ (sym c.can_be_named.ensures ∙ c.if-can_be_named.true))
