use Rattle.std.proofs.Common.{◌≡◌, ◌↔◌, ℤ, pos, ◌-ℤ◌, Bool, true, false, not, ap, subst, ◌∙◌, to_z, of_z, w32, arith}
use Rattle.std.specs.Prelude.{◌&&◌, ◌||◌, IsTrue}
use Rattle.cal_days.specs.Persian.{persian_leap}
use Rattle.cal_days.proofs.Signed.{signed}
use Rattle.cal_julian.specs.PersianRule.{is_corrected}
use Rattle.cal_julian.specs.laws.PersianRuleLaws.{leap-not_after}
use Rattle.cal_julian.proofs.persian_corrections.PersianCorrections.is_leap_year.Goals as goal

-- a leap year of the rule is one where it isn't corrected
ruled : (leap corrected before r : Bool) → leap ≡ true → before ≡ false → r ≡ corrected → IsTrue (not r) ↔ IsTrue ((leap && not corrected) || before)
ruled true true false true h k e = (λ x. x, λ x. x)
ruled true false false false h k e = (λ x. x, λ x. x)
ruled true true false false h k e = absurd (differ e) where
  differ : ◌≡◌ {A = Bool} false true → ⊥
  differ f = cc
ruled true false false true h k e = absurd (differ e) where
  differ : ◌≡◌ {A = Bool} true false → ⊥
  differ f = cc
ruled true corrected true r h k e = absurd (differ k) where
  differ : ◌≡◌ {A = Bool} true false → ⊥
  differ f = cc
ruled false corrected before r h k e = absurd (differ h) where
  differ : ◌≡◌ {A = Bool} false true → ⊥
  differ f = cc

pub returns-then-is_leap_year : goal.returns-then-is_leap_year
returns-then-is_leap_year c =
    let years = c.args.self.now.years.now in
    let y = c.args.year in
    let kept : to_z w32 (of_z w32 y) ≡ y = omega (arith, signed) in
    let leap = subst (λ (z : ℤ). persian_leap z ≡ true) kept (c.is_leap_year.ensures.0 c.if-is_leap_year.true) in
    ruled (persian_leap y) (is_corrected years y) (is_corrected years (y -ℤ pos 1)) c.contains.result leap (leap-not_after years c.args.self.now.known y leap) (c.contains.ensures ∙ ap (is_corrected years) kept)
