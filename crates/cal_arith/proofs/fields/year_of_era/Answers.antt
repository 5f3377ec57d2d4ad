use Rattle.std.proofs.Common.{◌∙◌, sym, pos, neg_ℤ}
use Rattle.cal_days.proofs.RangeLemmas.{is_between-true}
use Rattle.cal_arith.proofs.fields.year_of_era.Goals as goal

pub extended_year_from_era_year_unchecked-requires : goal.extended_year_from_era_year_unchecked-requires
extended_year_from_era_year_unchecked-requires g c = is_between-true (neg_ℤ (pos 1040000)) (pos 1040000) _ (sym c.can_be_named.ensures ∙ c.if-not-can_be_named.false)
