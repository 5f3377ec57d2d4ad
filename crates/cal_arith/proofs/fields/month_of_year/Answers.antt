use Rattle.std.proofs.Common.{◌≡◌, ℤ, Option, Some, refl, subst, sym, to_z, of_z, w32}
use Rattle.std.specs.Prelude.{IfSome}
use Rattle.cal_days.specs.Day.{IsRuleYear}
use Rattle.cal_arith.proofs.WordLemmas.{word}
use Rattle.cal_arith.proofs.fields.month_of_year.Goals as goal

-- the year that was named is a rule year, and so is what it is handed over as
named : (o : Option ℤ) (y : ℤ) → o ≡ Some y → IfSome o (λ y. IsRuleYear y) → IsRuleYear (to_z w32 (of_z w32 y))
named o y e h = let rule : IsRuleYear y = subst (λ o. IfSome o (λ y. IsRuleYear y)) e h in subst IsRuleYear (sym (word y y refl rule)) rule

pub given_year-requires-clause-from : goal.given_year-requires-clause-from
given_year-requires-clause-from g c = (named c.args.year c.in-Some.year c.in-Some.is c.requires).0

pub given_year-requires-clause-to : goal.given_year-requires-clause-to
given_year-requires-clause-to g c = (named c.args.year c.in-Some.year c.in-Some.is c.requires).1
