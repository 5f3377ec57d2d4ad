-- A test of two values by a test for each kind is an equivalence where each of these is one.
use Rattle.std.proofs.Common.{◌≡◌, ℕ, zero, suc, ◌==◌, Bool, true, false, ◌&&◌, List, [], ◌∷◌, refl, sym, ap, ◌∙◌, arith}
use Rattle.std.specs.Prelude.{IsTrue}
use Rattle.std.specs.Cmp.{IsEquivalence}
use Rattle.std.proofs.lemmas.Bool.Decides.{nat_tests}
use Rattle.cal_days.proofs.Signed.{by_bool}
use Rattle.cal_any.specs.ByKind.{always, test_of, by_kind}
use Rattle.cal_types.proofs.DateTests.{and-left, and-right, true-and}

pub equal_kinds : (m n : ℕ) → (m == n) ≡ true → m ≡ n
equal_kinds m n e = grind (arith, nat_tests)

pub same_kind : (m n : ℕ) → m ≡ n → (m == n) ≡ true
same_kind m n e = grind (arith, nat_tests)

other_way : (m n : ℕ) → (m == n) ≡ false → (n == m) ≡ false
other_way m n e = grind (arith, nat_tests)

pub always-equivalence : {K : Type 0} → IsEquivalence (always {K = K})
always-equivalence = record { refl = λ a. refl; symm = λ a b. refl; congr = λ a b c h. refl }

-- all tests are equivalences
abbrev pub AreEquivalences : {K : Type 0} → List (K → K → Bool) → Type 0
AreEquivalences [] = Unit {0}
AreEquivalences (E ∷ more) = IsEquivalence E × AreEquivalences more

test_of-equivalence : {K : Type 0} (tests : List (K → K → Bool)) → AreEquivalences tests → (n : ℕ) → IsEquivalence (test_of tests n)
test_of-equivalence [] h n = always-equivalence
test_of-equivalence (E ∷ more) h zero = h.0
test_of-equivalence (E ∷ more) h (suc n) = test_of-equivalence more h.1 n

module _ {K : Type 0} (kind : K → ℕ) (tests : List (K → K → Bool)) where
  pub by_kind-kinds : (a b : K) → IsTrue (by_kind kind tests a b) → kind a ≡ kind b
  by_kind-kinds a b h = equal_kinds (kind a) (kind b) (and-left (kind a == kind b) (test_of tests (kind a) a b) h)

  pub by_kind-test : (a b : K) → IsTrue (by_kind kind tests a b) → IsTrue (test_of tests (kind a) a b)
  by_kind-test a b h = and-right (kind a == kind b) (test_of tests (kind a) a b) h

  module _ (laws : AreEquivalences tests) where
    reflexive : (a : K) → by_kind kind tests a a ≡ true
    reflexive a = true-and (kind a == kind a) (test_of tests (kind a) a a) (same_kind (kind a) (kind a) refl) ((test_of-equivalence tests laws (kind a)).refl a)

    symmetric : (a b : K) → by_kind kind tests a b ≡ by_kind kind tests b a
    symmetric a b =
        by_bool {P = by_kind kind tests a b ≡ by_kind kind tests b a} (kind a == kind b)
        (λ on.
        let same = equal_kinds (kind a) (kind b) on in
        let back = same_kind (kind b) (kind a) (sym same) in
        let tests_same = (test_of-equivalence tests laws (kind a)).symm a b ∙ ap (λ (n : ℕ). test_of tests n b a) same in
        ap (λ (x : Bool). x && test_of tests (kind a) a b) on ∙ (tests_same ∙ sym (ap (λ (x : Bool). x && test_of tests (kind b) b a) back)))
        (λ no.
        ap (λ (x : Bool). x && test_of tests (kind a) a b) no ∙ sym (ap (λ (x : Bool). x && test_of tests (kind b) b a) (other_way (kind a) (kind b) no)))

    congruent : (a b c : K) → by_kind kind tests a b ≡ true → by_kind kind tests a c ≡ by_kind kind tests b c
    congruent a b c h =
        let same = by_kind-kinds a b h in
        let tests_same = (test_of-equivalence tests laws (kind a)).congr a b c (by_kind-test a b h) ∙ ap (λ (n : ℕ). test_of tests n b c) same in
        ap (λ (x : Bool). (kind a == kind c) && x) tests_same ∙ ap (λ (n : ℕ). (n == kind c) && test_of tests (kind b) b c) same

    pub by_kind-equivalence : IsEquivalence (by_kind kind tests)
    by_kind-equivalence = record { refl = reflexive; symm = symmetric; congr = congruent }
