-- The words that the program is given.
use Rattle.std.proofs.Common.{◌≡◌, List, [], ◌∷◌, drop, map, Option, Result, Ok, refl, sym, subst, ◌∙◌}
use Rattle.std.specs.Prelude.{IfOk, vec_items}
use Rattle.std.specs.Iterator.{AlwaysYields}
use Rattle.std.specs.declared.vec.Vec.{Vec}
use Rattle.std.proofs.lemmas.Iterator.{IsCollectResult}
use Rattle.std.proofs.lemmas.Iterator.Consumers.{map_from_collect}

-- those behind the first are read as the others
pub map_behind : {A B : Type 0} (f : A → B) (xs : List A) → map f (drop 1 xs) ≡ drop 1 (map f xs)
map_behind f [] = refl
map_behind f (x ∷ xs) = refl

-- what was collected is all that the iterator gives
pub all_collected : {S A B Z E F : Type 0} (steps : S → Option A → S → Type 0) (v : A → B) {given : Result S F} (s w : S) (all : List B) (r : Result (Vec A Z) E) (xs : Vec A Z) → given ≡ Ok s → given ≡ Ok w → AlwaysYields steps v w all → IsCollectResult steps s r → r ≡ Ok xs
    → map v (vec_items xs) ≡ all
all_collected {S} {A} {B} {Z} {E} {F} steps v {given} s w all r xs e f yields ran is =
    subst (λ (x : Result (Vec A Z) E). IfOk x (λ y. map v (vec_items y) ≡ all)) is
    (map_from_collect {steps = steps} {s = s} r ran (record { runs = subst (λ (x : S). AlwaysYields steps v x all) (same (sym f ∙ e)) yields }))
  where
    same : ◌≡◌ {A = Result S F} (Ok w) (Ok s) → w ≡ s
    same e = cc
