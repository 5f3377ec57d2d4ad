use Rattle.std.proofs.Common.{◌≡◌, ℕ, ◌+◌, ◌<◌, Bool, true, false, ◌||◌, nat_eq, List, length, take, get_or, set, refl, sym, ap, ◌∙◌, subst}
use Rattle.std.proofs.lemmas.Bool.{eqb-false, eqb-true, or_right}
use Rattle.std.proofs.lemmas.List.{get_or-set_other, get_or-set_same}
use Rattle.std.proofs.lemmas.List.Folds.{list_any_more}
use Rattle.cal_types.specs.Weekday.{days_since_sunday, is_weekday}
use Rattle.cal_types.specs.WeekdaySet.{is_one_of}
use Rattle.cal_types.specs.declared.weekday.Weekday.{Weekday}

or_no : (x y : Bool) → y ≡ false → (x || y) ≡ x
or_no true y e = refl
or_no false y e = e

-- one more day is held
pub held-more : (held : List Bool) (days : List Weekday) (i place : ℕ) (d other : Weekday) →
    place ≡ days_since_sunday (get_or days i d) → place < length held → i < length days →
    get_or held (days_since_sunday other) false ≡ is_one_of (take i days) other →
    get_or (set held place true) (days_since_sunday other) false ≡ is_one_of (take (i + 1) days) other
held-more held days i place d other is within more before =
    by_test (nat_eq (days_since_sunday other) place) refl
    ∙ (ap (λ p. is_one_of (take i days) other || nat_eq (days_since_sunday other) p) is
    ∙ sym (list_any_more (is_weekday other) days i d more))
  where
    by_test : (b : Bool) → nat_eq (days_since_sunday other) place ≡ b →
        get_or (set held place true) (days_since_sunday other) false
        ≡ (is_one_of (take i days) other || nat_eq (days_since_sunday other) place)
    by_test true same =
        let at = eqb-true (days_since_sunday other) place same in
        subst (λ k. get_or (set held place true) k false ≡ true) (sym at) (get_or-set_same held place true false within)
        ∙ sym (or_right (is_one_of (take i days) other) (nat_eq (days_since_sunday other) place) same)
    by_test false apart =
        get_or-set_other held place (days_since_sunday other) true false
        (eqb-false (days_since_sunday other) place apart)
        ∙ (before ∙ sym (or_no (is_one_of (take i days) other) (nat_eq (days_since_sunday other) place) apart))
