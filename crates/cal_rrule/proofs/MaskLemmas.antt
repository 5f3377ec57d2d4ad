-- Days that are added to a set.
use Rattle.std.proofs.Common.{◌≡◌, ◌∙◌, ◌⊎◌, ◌↔◌, ◌&&◌, ◌||◌, IsTrue, Bool, false, int_le, int_lt, ℤ, pos, ◌+ℤ◌, ◌≤ℤ◌, ◌<ℤ◌, refl, sym, subst, arith}
use mathlib.Core.Bool.{true≢false}
use mathlib.Core.Logic.{inl, inr, ⊎_elim}
use Rattle.std.specs.Ordering.{int_eq}
use Rattle.std.proofs.lemmas.Bool.Decides.{Decides-and, Decides-at, Decides-int_eq, Decides-or}
use Rattle.cal_days.proofs.Signed.{by_bool, signed}
use Rattle.cal_rrule.specs.Masks.{Adds}
use Rattle.recurrence_sets.specs.PeriodBits.{has_day}
use Rattle.recurrence_sets.specs.declared.period_days.PeriodDays.{PeriodDays}

pub le_test : (a b : ℤ) → IsTrue (int_le a b) ↔ (a ≤ℤ b)
le_test a b = (λ e. omega (arith, signed, e), λ h. by_bool (int_le a b) (λ e. e) (λ e. absurd (omega (arith, signed, e, h))))

pub lt_test : (a b : ℤ) → IsTrue (int_lt a b) ↔ (a <ℤ b)
lt_test a b = (λ e. omega (arith, signed, e), λ h. by_bool (int_lt a b) (λ e. e) (λ e. absurd (omega (arith, signed, e, h))))

-- one day
pub adds-day : (old new : PeriodDays) (day : ℤ) → new.first ≡ old.first →
    ((n : ℤ) → old.first ≤ℤ n → n <ℤ (old.first +ℤ pos 448) → has_day new n ≡ (int_eq n day || has_day old n)) →
    Adds old new (λ n. n ≡ day)
adds-day old new day first days = record {
  first = first;
  days = λ n row. Decides-at (has_day new n) (int_eq n day || has_day old n) (days n row.0 row.1)
      (Decides-or (int_eq n day) (has_day old n) (Decides-int_eq n day) (λ h. h, λ h. h));
}

-- days in a row
pub adds-run : (old new : PeriodDays) (from to : ℤ) → new.first ≡ old.first →
    ((n : ℤ) → old.first ≤ℤ n → n <ℤ (old.first +ℤ pos 448) →
    has_day new n ≡ ((int_le from n && int_lt n to) || has_day old n)) →
    Adds old new (λ n. (from ≤ℤ n) × (n <ℤ to))
adds-run old new from to first days = record {
  first = first;
  days = λ n row. Decides-at (has_day new n) ((int_le from n && int_lt n to) || has_day old n) (days n row.0 row.1)
      (Decides-or (int_le from n && int_lt n to) (has_day old n)
      (Decides-and (int_le from n) (int_lt n to) (le_test from n) (lt_test n to)) (λ h. h, λ h. h));
}

-- none
pub adds-none : (days : PeriodDays) (Is : ℤ → Type 0) → ((n : ℤ) → Is n → ⊥) → Adds days days Is
adds-none days Is none = record {
  first = refl;
  days = λ n row. (λ h. inr h, λ h. ⊎_elim (λ p. absurd (none n p)) (λ h. h) h);
}

-- of another kind that has the same days
pub adds-as : (old new : PeriodDays) (Is Other : ℤ → Type 0) → Adds old new Is → ((n : ℤ) → Is n ↔ Other n) →
    Adds old new Other
adds-as old new Is Other given same = record {
  first = given.first;
  days = λ n row. (
    λ h. ⊎_elim (λ p. inl ((same n).0 p)) (λ q. inr q) ((given.days n row).0 h),
    λ h. (given.days n row).1 (⊎_elim (λ p. inl ((same n).1 p)) (λ q. inr q) h),
  );
}

pub row_at : (f g : ℤ) (n : ℤ) → g ≡ f → (f ≤ℤ n) × (n <ℤ (f +ℤ pos 448)) → (g ≤ℤ n) × (n <ℤ (g +ℤ pos 448))
row_at f g n same row = subst (λ (h : ℤ). (h ≤ℤ n) × (n <ℤ (h +ℤ pos 448))) (sym same) row

-- of one kind, and then of another
pub adds-then : (old mid new : PeriodDays) (Is More : ℤ → Type 0) → Adds old mid Is → Adds mid new More →
    Adds old new (λ n. Is n ⊎ More n)
adds-then old mid new Is More one two = record {
  first = two.first ∙ one.first;
  days = λ n row.
      let here = one.days n row in
      let there = two.days n (row_at old.first mid.first n one.first row) in (
        λ h. ⊎_elim (λ q. inl (inr q)) (λ m. ⊎_elim (λ p. inl (inl p)) (λ o. inr o) (here.0 m)) (there.0 h),
        λ h. there.1 (⊎_elim (λ pq. ⊎_elim (λ p. inr (here.1 (inl p))) (λ q. inl q) pq) (λ o. inr (here.1 (inr o))) h),
      );
}

-- the only day of a kind
pub adds-only : (old new : PeriodDays) (day : ℤ) (Is : ℤ → Type 0) → Is day × ((n : ℤ) → Is n → n ≡ day) →
    new.first ≡ old.first →
    ((n : ℤ) → old.first ≤ℤ n → n <ℤ (old.first +ℤ pos 448) → has_day new n ≡ (int_eq n day || has_day old n)) →
    Adds old new Is
adds-only old new day Is only first days =
    adds-as old new (λ n. n ≡ day) Is (adds-day old new day first days)
    (λ n. (λ e. subst Is (sym e) only.0, only.1 n))

-- under a test
pub adds-if : (old new : PeriodDays) (b : Bool) (Is : ℤ → Type 0) → IsTrue b → Adds old new Is →
    Adds old new (λ n. IsTrue b × Is n)
adds-if old new b Is holds given = adds-as old new Is (λ n. IsTrue b × Is n) given (λ n. (λ p. (holds, p), λ q. q.1))

pub adds-if_not : (days : PeriodDays) (b : Bool) (Is : ℤ → Type 0) → b ≡ false → Adds days days (λ n. IsTrue b × Is n)
adds-if_not days b Is fails = adds-none days (λ n. IsTrue b × Is n) (λ n h. true≢false (sym h.0 ∙ fails))
