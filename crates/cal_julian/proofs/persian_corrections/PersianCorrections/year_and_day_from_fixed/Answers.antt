use Rattle.std.proofs.Common.{◌≡◌, ◌∙◌, Bool, true, false, ⊎_elim, List, [], ◌∷◌, length, refl, sym, ap, subst, ℤ, pos, ◌+ℤ◌, ◌<ℤ◌, to_z, of_z, w32, arith}
use Rattle.std.specs.Prelude.{◌==◌}
use Rattle.std.proofs.lemmas.Bool.Decides.{eqb_tells}
use Rattle.cal_days.specs.Persian.{persian_start}
use Rattle.cal_days.proofs.Signed.{signed}
use Rattle.cal_days.proofs.PersianLemmas.{persian_start-next}
use Rattle.cal_julian.specs.PersianRule.{persian_new_year}
use Rattle.cal_julian.proofs.persian_corrections.PersianCorrections.year_and_day_from_fixed.Goals as goal

differ : ◌≡◌ {A = Bool} false true → ⊥
differ e = cc

-- without corrections each year starts by the rule
ruled : (years : List ℤ) (y : ℤ) → (length years == 0) ≡ true → persian_new_year years y ≡ persian_start y
ruled [] y h = refl
ruled (x ∷ xs) y h =
    ⊎_elim {C = persian_new_year (x ∷ xs) y ≡ persian_start y}
    (λ none. absurd (omega (arith, none.1)))
    (λ some. absurd (differ (sym some.0 ∙ h)))
    (eqb_tells (length (x ∷ xs)) 0)

pub corrected-requires-clause-day : goal.corrected-requires-clause-day
corrected-requires-clause-day c =
    let year = c.year_and_day_from_fixed-year in
    let same : to_z w32 (of_z w32 year.result.0) ≡ year.result.0 = omega (arith, signed, year.ensures.range) in
    rw same (omega (arith, signed, year.ensures.day, year.ensures.within, persian_start-next year.result.0))

pub returns-clause-day : goal.returns-clause-day
returns-clause-day c =
    let year = c.year_and_day_from_fixed-year in
    let same : to_z w32 (of_z w32 year.result.0) ≡ year.result.0 = omega (arith, signed, year.ensures.range) in
    (rw same at c.corrected.ensures.day) ∙ year.ensures.day

pub returns-clause-within : goal.returns-clause-within
returns-clause-within c =
    let year = c.year_and_day_from_fixed-year in
    let same : to_z w32 (of_z w32 year.result.0) ≡ year.result.0 = omega (arith, signed, year.ensures.range) in
    rw (same, year.ensures.day) at c.corrected.ensures.within

pub returns-then-is_empty-clause-day : goal.returns-then-is_empty-clause-day
returns-then-is_empty-clause-day c =
    let years = c.args.self.now.years.now in
    let year = c.year_and_day_from_fixed-year in
    let same : to_z w32 (of_z w32 year.result.0) ≡ year.result.0 = omega (arith, signed, year.ensures.range) in
    let none : (length years == 0) ≡ true = sym c.is_empty.ensures ∙ c.if-is_empty.true in
    rw same (ap (λ (z : ℤ). z +ℤ pos year.result.1) (ruled years year.result.0 none) ∙ year.ensures.day)

pub returns-then-is_empty-clause-within : goal.returns-then-is_empty-clause-within
returns-then-is_empty-clause-within c =
    let years = c.args.self.now.years.now in
    let year = c.year_and_day_from_fixed-year in
    let same : to_z w32 (of_z w32 year.result.0) ≡ year.result.0 = omega (arith, signed, year.ensures.range) in
    let none : (length years == 0) ≡ true = sym c.is_empty.ensures ∙ c.if-is_empty.true in
    rw same (subst (λ (z : ℤ). c.args.rd <ℤ z) (sym (ruled years (year.result.0 +ℤ pos 1) none)) year.ensures.within)
