use Rattle.std.proofs.Common.{◌≡◌, ℤ, pos, neg_ℤ, Bool, true, sym, ◌∙◌, arith}
use Rattle.cal_days.specs.Day.{IsRuleYear, is_field_year}
use Rattle.cal_days.proofs.RangeLemmas.{is_between-true}
use Rattle.cal_days.proofs.Signed.{signed}
use Rattle.cal_hebrew.proofs.hebrew.HebrewNamedYears.owns_year.Goals as goal

-- a year that can be named is one that the rules count
counted : (year : ℤ) (named : Bool) → named ≡ is_field_year year → named ≡ true → IsRuleYear year
counted year named test holds =
    let field = is_between-true (neg_ℤ (pos 1040000)) (pos 1040000) year (sym test ∙ holds) in
    (omega (arith, signed, field), omega (arith, signed, field))

pub year_length-requires : goal.year_length-requires
year_length-requires c = counted _ _ c.can_be_named.ensures c.if-can_be_named.true
