-- Calendars of one type of which any two can be compared.
use Rattle.std.proofs.Common.{◌≡◌, Bool, true, false, refl}
use Rattle.std.specs.Cmp.{IsEquivalence}

-- they are all alike
pub all_alike : {A : Type 0} → IsEquivalence (λ (a b : A). true)
all_alike = record { refl = λ x. refl; symm = λ x y. refl; congr = λ x y z h. refl }

-- and no two are refused
pub never_refused : {A : Type 0} → ◌≡◌ {A = Bool} true false → A
never_refused {A} h = absurd (differ h) where
  differ : ◌≡◌ {A = Bool} true false → ⊥
  differ e = cc
