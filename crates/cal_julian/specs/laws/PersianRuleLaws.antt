-- Years with corrections join, and start where the rule says or a day earlier.
use Rattle.std.proofs.Common.{◌≡◌, Bool, true, false, not, if◌then◌else◌, List, [], ◌∷◌, refl, sym, ap, subst, ◌∙◌, arith, ℤ, pos, ◌+ℤ◌, ◌-ℤ◌, ◌≤ℤ◌}
use Rattle.std.specs.Prelude.{◌&&◌, ◌||◌, cond, int_lt}
use Rattle.std.specs.Ordering.{int_eq, is_eq}
use Rattle.std.specs.declared.cmp.Ordering.TheVariants.{Less, Equal, Greater}
use Rattle.std.specs.List.{list_all, list_any}
use Rattle.cal_days.specs.Day.{IsBetween, is_between}
use Rattle.cal_days.specs.Division.{floor_div}
use Rattle.cal_days.specs.Persian.{persian_leap, persian_start}
use Rattle.cal_days.proofs.RangeLemmas.{is_between-true}
use Rattle.cal_days.proofs.Signed.{signed, by_bool}
use Rattle.cal_days.proofs.PersianLemmas.{persian_leap-apart, persian_start-next}
use Rattle.cal_types.proofs.DateTests.{and-left, and-right, not_true}
use Rattle.cal_julian.specs.PersianRule.{AreCorrectable, is_correctable, is_corrected, is_persian_leap, persian_new_year}

neither : (less greater : Bool) → is_eq (cond less Less (cond greater Greater Equal)) ≡ true → (less ≡ false) × (greater ≡ false)
neither true greater h = absurd (differ h) where
  differ : ◌≡◌ {A = Bool} false true → ⊥
  differ e = cc
neither false true h = absurd (differ h) where
  differ : ◌≡◌ {A = Bool} false true → ⊥
  differ e = cc
neither false false h = (refl, refl)

pub int_eq-same : (a b : ℤ) → int_eq a b ≡ true → a ≡ b
int_eq-same a b h = let apart = neither (int_lt a b) (int_lt b a) h in omega (arith, signed, apart.0, apart.1)

-- a corrected year may be corrected
pub corrected-correctable : (years : List ℤ) → AreCorrectable years → (y : ℤ) → is_corrected years y ≡ true → is_correctable y ≡ true
corrected-correctable [] h y e = absurd (differ e) where
  differ : ◌≡◌ {A = Bool} false true → ⊥
  differ f = cc
corrected-correctable (c ∷ cs) h y e =
    by_bool (int_eq c y)
    (λ same. subst (λ (z : ℤ). is_correctable z ≡ true) (int_eq-same c y same) (and-left (is_correctable c) (list_all is_correctable cs) h))
    (λ other. corrected-correctable cs (and-right (is_correctable c) (list_all is_correctable cs) h) y (subst (λ (b : Bool). (b || list_any (λ x. int_eq x y) cs) ≡ true) other e))

module _ (years : List ℤ) (known : AreCorrectable years) where
  -- it is a leap year by the rule
  pub corrected-leap : (y : ℤ) → is_corrected years y ≡ true → persian_leap y ≡ true
  corrected-leap y e = and-right (is_between (pos 1) (pos 9999) y) (persian_leap y) (corrected-correctable years known y e)

  pub corrected-range : (y : ℤ) → is_corrected years y ≡ true → IsBetween (pos 1) (pos 9999) y
  corrected-range y e = is_between-true (pos 1) (pos 9999) y (and-left (is_between (pos 1) (pos 9999) y) (persian_leap y) (corrected-correctable years known y e))

  -- and the next one isn't
  pub after_corrected-common : (y : ℤ) → is_corrected years (y -ℤ pos 1) ≡ true → persian_leap y ≡ false
  after_corrected-common y e = persian_leap-apart (y -ℤ pos 1) y (omega (arith, signed)) (corrected-leap (y -ℤ pos 1) e)

  -- so the year before a leap year of the rule isn't corrected
  pub leap-not_after : (y : ℤ) → persian_leap y ≡ true → is_corrected years (y -ℤ pos 1) ≡ false
  leap-not_after y h = not_true (is_corrected years (y -ℤ pos 1)) (λ e. differ (sym h ∙ after_corrected-common y e)) where
    differ : ◌≡◌ {A = Bool} true false → ⊥
    differ f = cc

  -- nor is the year after a corrected one corrected
  pub corrected-apart : (y : ℤ) → is_corrected years (y -ℤ pos 1) ≡ true → is_corrected years y ≡ true → ⊥
  corrected-apart y before here = differ (sym (corrected-leap y here) ∙ after_corrected-common y before) where
    differ : ◌≡◌ {A = Bool} true false → ⊥
    differ f = cc

joined : (leap corrected before : Bool) (s t : ℤ) → (corrected ≡ true → leap ≡ true) → (before ≡ true → leap ≡ false) → t ≡ s +ℤ pos (if leap then 366 else 365) → (if corrected then t -ℤ pos 1 else t) ≡ (if before then s -ℤ pos 1 else s) +ℤ pos (if (leap && not corrected) || before then 366 else 365)
joined true true false s t h k e = omega (arith, signed, e)
joined true false false s t h k e = omega (arith, signed, e)
joined false false true s t h k e = omega (arith, signed, e)
joined false false false s t h k e = omega (arith, signed, e)
joined true corrected true s t h k e = absurd (differ (k refl)) where
  differ : ◌≡◌ {A = Bool} true false → ⊥
  differ f = cc
joined false true before s t h k e = absurd (differ (h refl)) where
  differ : ◌≡◌ {A = Bool} false true → ⊥
  differ f = cc

new_year_by : (before : Bool) (s : ℤ) → (s ≤ℤ ((if before then s -ℤ pos 1 else s) +ℤ pos 1)) × ((if before then s -ℤ pos 1 else s) ≤ℤ s)
new_year_by true s = (omega (arith, signed), omega (arith, signed))
new_year_by false s = (omega (arith, signed), omega (arith, signed))

-- a year starts where the rule says, or a day earlier
pub persian_new_year-near : (years : List ℤ) (y : ℤ) → (persian_start y ≤ℤ (persian_new_year years y +ℤ pos 1)) × (persian_new_year years y ≤ℤ persian_start y)
persian_new_year-near years y = new_year_by (is_corrected years (y -ℤ pos 1)) (persian_start y)

-- the year after it
pub persian_new_year-after : (years : List ℤ) (y : ℤ) → persian_new_year years (y +ℤ pos 1) ≡ (if is_corrected years y then persian_start (y +ℤ pos 1) -ℤ pos 1 else persian_start (y +ℤ pos 1))
persian_new_year-after years y =
    let back : y +ℤ pos 1 -ℤ pos 1 ≡ y = omega (arith, signed) in
    ap (λ (z : ℤ). if is_corrected years z then persian_start (y +ℤ pos 1) -ℤ pos 1 else persian_start (y +ℤ pos 1)) back

-- the next year starts where a year ends
pub persian_new_year-next : (years : List ℤ) → AreCorrectable years → (y : ℤ) → persian_new_year years (y +ℤ pos 1) ≡ persian_new_year years y +ℤ pos (if is_persian_leap years y then 366 else 365)
persian_new_year-next years known y =
    persian_new_year-after years y
    ∙ joined (persian_leap y) (is_corrected years y) (is_corrected years (y -ℤ pos 1)) (persian_start y) (persian_start (y +ℤ pos 1)) (corrected-leap years known y) (after_corrected-common years known y) (persian_start-next y)

rule_first : persian_start (pos 1) ≡ pos 226895
unfolding persian_start floor_div
rule_first = refl

-- year 1 starts on day 226895, since year 0 isn't corrected
pub persian_new_year-first : (years : List ℤ) → AreCorrectable years → persian_new_year years (pos 1) ≡ pos 226895
persian_new_year-first years known =
    let plain = not_true (is_corrected years (pos 0)) (λ e. absurd (omega (arith, signed, corrected-range years known (pos 0) e))) in
    ap (λ (b : Bool). if b then persian_start (pos 1) -ℤ pos 1 else persian_start (pos 1)) plain ∙ rule_first
