-- Dates are equal or ordered where their calendars are compatible, and not otherwise.
use Rattle.std.specs.Prelude.{◌≡◌, Bool, true, false, ◌&&◌, Option, Some, None, IsTrue, if◌then◌else◌, refl}
use Rattle.std.specs.declared.convert.Infallible.{Infallible}
use Rattle.std.specs.declared.cmp.Ordering.{Ordering}
use Rattle.std.specs.Cmp.{IsPartialOrder, IsEquivalence}
use Rattle.std.proofs.Common.{arith}
use Rattle.std.proofs.lemmas.Grind.{common_steps}
use Rattle.std.proofs.lemmas.Bool.Decides.{nat_tests}
use Rattle.cal_types.proofs.DateTests.{same_truth}

-- calendars that are each compatible with themselves, back and on, are alike
pub compatible-alike : {K : Type 0} (C : K → K → Bool) → ((s : K) → IsTrue (C s s))
    → ((s t : K) → IsTrue (C s t) → IsTrue (C t s))
    → ((s t u : K) → IsTrue (C s t) → IsTrue (C t u) → IsTrue (C s u)) → IsEquivalence C
compatible-alike C itself back on = record {
  refl = itself;
  symm = λ s t. same_truth (C t s) (C s t) (back t s, back s t);
  congr = λ s t u h. same_truth (C t u) (C s u) (on s t u h, on t s u (back s t h));
}

-- a partial order of values that are alike, and none of others
module _ {K : Type 0} {S E : K → K → Bool} {C : K → K → Option Ordering} where
  pub ordered_within : IsEquivalence S → IsPartialOrder E C
      → IsPartialOrder (λ a b. S a b && E a b) (λ a b. if S a b then C a b else None)
  ordered_within s o = record {
    antisymm = λ a b. grind (arith, nat_tests, common_steps, s.symm a b, o.antisymm a b);
    trans = λ a b c p q. grind (arith, nat_tests, common_steps, s.congr a b c, o.trans a b c);
    matches_eq = λ a b. (λ p. grind (arith, nat_tests, common_steps, (o.matches_eq a b).0), λ p. grind (arith, nat_tests, common_steps, (o.matches_eq a b).1));
    congr = λ a b c p. grind (arith, nat_tests, common_steps, s.congr a b c, o.congr a b c);
  }

-- where no refusal is there, values are alike: their order and their equality are those of what they hold
pub all_ordered : {c : Option Ordering} {r : Ordering} {b : Bool} → (b ≡ false → Infallible) → c ≡ Some r
    → (if b then c else None) ≡ Some r
all_ordered {b = true} refusal e = e
all_ordered {b = false} refusal e = elim (refusal refl) [ ]

pub all_equal : {e f : Bool} {b : Bool} → (b ≡ false → Infallible) → e ≡ f → (b && e) ≡ f
all_equal {b = true} refusal h = h
all_equal {b = false} refusal h = elim (refusal refl) [ ]
