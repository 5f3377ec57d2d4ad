-- Dates of a list are equal and ordered as their day numbers.
use Rattle.std.proofs.Common.{◌≡◌, ℕ, Bool, inl, inr, refl, sym, ap, ◌∙◌, arith}
use Rattle.std.specs.Prelude.{◌&&◌, nat_eq}
use Rattle.std.specs.Ordering.{nat_cmp, int_cmp, int_eq, is_eq, ordering_then}
use Rattle.std.specs.Cmp.{IsEquivalence, IsTotalOrder, on_equiv, on_total, and_equiv, then_total, nat_eq_equiv, int_eq_equiv, nat_cmp_total, int_cmp_total, nat_cmp_is, int_cmp_is}
use Rattle.std.specs.declared.cmp.Ordering.{Ordering}
use Rattle.std.specs.declared.cmp.Ordering.TheVariants.{Less, Equal, Greater}
use Rattle.std.proofs.lemmas.Bool.Decides.{nat_tests}
use Rattle.cal_types.specs.CalendarList.{CalendarList, Date, date, day_number, IsDate, IsBefore}
use Rattle.cal_types.specs.DateOrder.{date_eq, date_cmp}
use Rattle.cal_types.proofs.ListLemmas.{day_number-rises, by_order}

pub date_eq-equiv : IsEquivalence date_eq
date_eq-equiv = and_equiv (on_equiv (λ t. t.year) int_eq_equiv) (and_equiv (on_equiv (λ t. t.month) nat_eq_equiv) (on_equiv (λ t. t.day) nat_eq_equiv))

pub date_cmp-total : IsTotalOrder date_cmp
date_cmp-total = then_total (on_total (λ t. t.year) int_cmp_total) (then_total (on_total (λ t. t.month) nat_cmp_total) (on_total (λ t. t.day) nat_cmp_total))

nat_eq-ties : (m n : ℕ) → nat_eq m n ≡ is_eq (nat_cmp m n)
nat_eq-ties m n = grind (arith, nat_tests)

-- the same, if one order after another has no difference
both_ties : (a b : Bool) (r s : Ordering) → a ≡ is_eq r → b ≡ is_eq s → (a && b) ≡ is_eq (ordering_then r s)
both_ties a b Less s e f = ap (λ (x : Bool). x && b) e
both_ties a b Equal s e f = ap (λ (x : Bool). x && b) e ∙ f
both_ties a b Greater s e f = ap (λ (x : Bool). x && b) e

-- dates are equal where neither comes first
pub date_eq-ties : (t u : Date) → date_eq t u ≡ is_eq (date_cmp t u)
date_eq-ties t u = both_ties _ _ (int_cmp t.year u.year) _ refl (both_ties _ _ (nat_cmp t.month u.month) _ (nat_eq-ties t.month u.month) (nat_eq-ties t.day u.day))

-- one order after another, by what each answers
then_first : (a b r : Ordering) → a ≡ r → ordering_then r b ≡ r → ordering_then a b ≡ r
then_first a b r e f = ap (λ (x : Ordering). ordering_then x b) e ∙ f

then_second : (a b r : Ordering) → a ≡ Equal → b ≡ r → ordering_then a b ≡ r
then_second a b r e f = ap (λ (x : Ordering). ordering_then x b) e ∙ f

date_cmp-before : (t u : Date) → IsBefore (t.year, t.month, t.day) (u.year, u.month, u.day) → date_cmp t u ≡ Less
date_cmp-before t u (inl years) = then_first _ _ Less (sym (int_cmp_is t.year u.year Less years)) refl
date_cmp-before t u (inr (year, inl months)) =
    then_second _ _ Less (sym (int_cmp_is t.year u.year Equal year)) (then_first _ _ Less (sym (nat_cmp_is t.month u.month Less months)) refl)
date_cmp-before t u (inr (year, inr (month, days))) =
    then_second _ _ Less (sym (int_cmp_is t.year u.year Equal year)) (then_second _ _ Less (sym (nat_cmp_is t.month u.month Equal month)) (sym (nat_cmp_is t.day u.day Less days)))

date_cmp-after : (t u : Date) → IsBefore (u.year, u.month, u.day) (t.year, t.month, t.day) → date_cmp t u ≡ Greater
date_cmp-after t u (inl years) = then_first _ _ Greater (sym (int_cmp_is t.year u.year Greater years)) refl
date_cmp-after t u (inr (year, inl months)) =
    then_second _ _ Greater (sym (int_cmp_is t.year u.year Equal (sym year))) (then_first _ _ Greater (sym (nat_cmp_is t.month u.month Greater months)) refl)
date_cmp-after t u (inr (year, inr (month, days))) =
    then_second _ _ Greater (sym (int_cmp_is t.year u.year Equal (sym year))) (then_second _ _ Greater (sym (nat_cmp_is t.month u.month Equal (sym month))) (sym (nat_cmp_is t.day u.day Greater days)))

-- dates of a list have the order of their day numbers
pub dates-ordered : (c : CalendarList) (t u : Date) → IsDate c t → IsDate c u → date_cmp t u ≡ int_cmp (day_number c t) (day_number c u)
dates-ordered c t u h k =
    by_order {P = date_cmp t u ≡ int_cmp (day_number c t) (day_number c u)} t.year t.month t.day u.year u.month u.day
    (λ before. date_cmp-before t u before ∙ int_cmp_is (day_number c t) (day_number c u) Less (day_number-rises c t u h k before))
    (λ after. date_cmp-after t u after ∙ int_cmp_is (day_number c t) (day_number c u) Greater (day_number-rises c u t k h after))
    (λ years months days.
    then_second _ _ Equal (sym (int_cmp_is t.year u.year Equal years)) (then_second _ _ Equal (sym (nat_cmp_is t.month u.month Equal months)) (sym (nat_cmp_is t.day u.day Equal days)))
    ∙ int_cmp_is (day_number c t) (day_number c u) Equal (same_day years months days)) where
      same_day : t.year ≡ u.year → t.month ≡ u.month → t.day ≡ u.day → day_number c t ≡ day_number c u
      same_day e f g = let same : date t.year t.month t.day ≡ date u.year u.month u.day = cc in ap (day_number c) same

-- and they are the same date where these are equal
pub dates-equal : (c : CalendarList) (t u : Date) → IsDate c t → IsDate c u → date_eq t u ≡ int_eq (day_number c t) (day_number c u)
dates-equal c t u h k = date_eq-ties t u ∙ ap is_eq (dates-ordered c t u h k)
