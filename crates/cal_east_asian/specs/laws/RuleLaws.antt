-- Laws of rules that have no reference years, and of rules that take the mean years at an offset.
use Rattle.std.proofs.Common.{◌≡◌, ℤ, Result, Ok, Err, refl, ap, ◌∙◌, arith}
use Rattle.std.specs.Prelude.{IsTrue}
use Rattle.std.specs.Ordering.{int_eq}
use Rattle.std.proofs.lemmas.Int.{ints}
use Rattle.cal_errors.specs.declared.errors.EcmaReferenceYearError.{EcmaReferenceYearError}
use Rattle.cal_errors.specs.declared.errors.EcmaReferenceYearError.TheVariants.{MonthNotInCalendar, UseRegularIfConstrain, Unimplemented}
use Rattle.cal_east_asian.specs.RuleYears.{rule_year}
use Rattle.cal_east_asian.specs.MeanYears.{IsOffset}
use Rattle.cal_east_asian.specs.MeanParts.{mean_parts}
use Rattle.cal_east_asian.specs.MeanTraditionalYears.{mean_traditional_year}
use Rattle.cal_east_asian.specs.laws.SameParts.{same_parts}

-- what isn't implemented gives no year, and no other refusal
pub unimplemented-year : {Q : Type 0} (y : ℤ) → ◌≡◌ {A = Result ℤ EcmaReferenceYearError} (Err Unimplemented) (Ok y) → Q
unimplemented-year y e = absurd cc

pub unimplemented-kind : {Q : Type 0} → ◌≡◌ {A = Result ℤ EcmaReferenceYearError} (Err Unimplemented) (Err MonthNotInCalendar) → Q
unimplemented-kind e = absurd cc

pub unimplemented-leap_month : {Q : Type 0} → ◌≡◌ {A = Result ℤ EcmaReferenceYearError} (Err Unimplemented) (Err UseRegularIfConstrain) → Q
unimplemented-leap_month e = absurd cc

int-same : (a b : ℤ) → IsTrue (int_eq a b) → a ≡ b
int-same a b h = grind (arith, ints)

-- the mean year of one number at one offset is the same
pub mean-same : (o p : ℤ) (h : IsOffset o) (k : IsOffset p) → o ≡ p → (y z : ℤ) → y ≡ z → mean_traditional_year o h y ≡ mean_traditional_year p k z
mean-same o p h k e y z f =
    same_parts (mean_traditional_year o h y) (mean_traditional_year p k z) (ap rule_year f)
    (ap (λ (x : ℤ). (mean_parts o (rule_year x)).new_year) f ∙ ap (λ (x : ℤ). (mean_parts x (rule_year z)).new_year) e)
    (ap (λ (x : ℤ). (mean_parts o (rule_year x)).long_months) f ∙ ap (λ (x : ℤ). (mean_parts x (rule_year z)).long_months) e)
    (ap (λ (x : ℤ). (mean_parts o (rule_year x)).leap_month) f ∙ ap (λ (x : ℤ). (mean_parts x (rule_year z)).leap_month) e)

-- so rules at one offset share their years
pub mean-shared : (o p : ℤ) (h : IsOffset o) (k : IsOffset p) → IsTrue (int_eq o p) → (y : ℤ) → mean_traditional_year o h y ≡ mean_traditional_year p k y
mean-shared o p h k same y = mean-same o p h k (int-same o p same) y y refl
