-- Readings that may fail, step by step.
use Rattle.std.proofs.Common.{◌≡◌, Option, Some, None, refl, ap}
use Rattle.std.specs.Option.{option_map, option_and_then}

-- what a reading of two steps made
pub and_then-inverts : {A B : Type 0} (f : A → Option B) (o : Option A) (y : B) → option_and_then f o ≡ Some y → (x : A) × (o ≡ Some x) × (f x ≡ Some y)
and_then-inverts f None y e = absurd cc
and_then-inverts f (Some x) y e = (x, refl, e)

pub map-inverts : {A B : Type 0} (f : A → B) (o : Option A) (y : B) → option_map f o ≡ Some y → (x : A) × (o ≡ Some x) × (f x ≡ y)
map-inverts f None y e = absurd cc
map-inverts f (Some x) y e = (x, refl, cc)

-- the two parts of a reading
pub some_pair : {A B : Type 0} (a c : A) (b d : B) → ◌≡◌ {A = Option (A × B)} (Some (a, b)) (Some (c, d)) → (a ≡ c) × (b ≡ d)
some_pair {A} {B} a c b d e = let pair : ◌≡◌ {A = A × B} (a, b) (c, d) = cc in (ap (λ (p : A × B). p.0) pair, ap (λ (p : A × B). p.1) pair)
