-- The parts between the LFs, as bytes follow.
use Rattle.std.proofs.Common.{◌≡◌, ◌≢◌, ℕ, ◌-◌, ◌<◌, ◌≤◌, Bool, true, false, cond, List, [], ◌∷◌, ◌++◌, length, get_or, refl, arith, ◌∙◌, sym, ap, eqb, ◌==◌, ⊎_elim, suc}
use Rattle.std.specs.List.{onto_first}
use Rattle.std.proofs.lemmas.List.{append_assoc, append-nil}
use Rattle.std.proofs.lemmas.List.Splits.{length-slice_split}
use Rattle.std.proofs.lemmas.List.Sums.{count_by-le-length}
use Rattle.std.proofs.lemmas.Bool.Decides.{eqb_tells}
use Rattle.byte_io.specs.Lines.{prefix_of, last_of, parts_of, closed_lines, open_line}

pub length-parts_of : (b : List ℕ) → 0 < length (parts_of b)
length-parts_of b = omega (arith, length-slice_split (λ (x : ℕ). x == 10) b)

onto_first-append : (y : ℕ) (s t : List (List ℕ)) → 0 < length s → onto_first y (s ++ t) ≡ onto_first y s ++ t
onto_first-append y [] t h = absurd (omega arith)
onto_first-append y (x ∷ s) t h = refl

prefix_of-last_of : (s : List (List ℕ)) → 0 < length s → prefix_of s ++ last_of s ∷ [] ≡ s
prefix_of-last_of [] h = absurd (omega arith)
prefix_of-last_of (x ∷ []) h = refl
prefix_of-last_of (x ∷ y ∷ more) h = ap (λ r. x ∷ r) (prefix_of-last_of (y ∷ more) (omega arith))

prefix_of-push : (s : List (List ℕ)) (x : List ℕ) → prefix_of (s ++ x ∷ []) ≡ s
prefix_of-push [] x = refl
prefix_of-push (y ∷ []) x = refl
prefix_of-push (y ∷ z ∷ more) x = ap (λ r. y ∷ r) (prefix_of-push (z ∷ more) x)

last_of-push : (s : List (List ℕ)) (x : List ℕ) → last_of (s ++ x ∷ []) ≡ x
last_of-push [] x = refl
last_of-push (y ∷ []) x = refl
last_of-push (y ∷ z ∷ more) x = last_of-push (z ∷ more) x

lf_step : (c : Bool) (y : ℕ) (s : List (List ℕ)) → 0 < length s → cond c ([] ∷ (s ++ [] ∷ [])) (onto_first y (s ++ [] ∷ [])) ≡ cond c ([] ∷ s) (onto_first y s) ++ [] ∷ []
lf_step true y s h = refl
lf_step false y s h = onto_first-append y s ([] ∷ []) h

parts_of-push_lf : (b : List ℕ) → parts_of (b ++ 10 ∷ []) ≡ parts_of b ++ [] ∷ []
parts_of-push_lf [] = refl
parts_of-push_lf (y ∷ b) =
    ap (λ r. cond (y == 10) ([] ∷ r) (onto_first y r)) (parts_of-push_lf b) ∙ lf_step (y == 10) y (parts_of b) (length-parts_of b)

-- the last part goes on with x
longer : List (List ℕ) → ℕ → List (List ℕ)
longer s x = prefix_of s ++ (last_of s ++ x ∷ []) ∷ []

other_step : (c : Bool) (y x : ℕ) (s : List (List ℕ)) → 0 < length s → cond c ([] ∷ longer s x) (onto_first y (longer s x)) ≡ longer (cond c ([] ∷ s) (onto_first y s)) x
unfolding longer
other_step c y x [] h = absurd (omega arith)
other_step true y x (s ∷ more) h = refl
other_step false y x (s ∷ []) h = refl
other_step false y x (s ∷ t ∷ more) h = refl

parts_of-push_other : (b : List ℕ) (x : ℕ) → eqb x 10 ≡ false → parts_of (b ++ x ∷ []) ≡ longer (parts_of b) x
unfolding longer
parts_of-push_other [] x h = rw h refl
parts_of-push_other (y ∷ b) x h =
    ap (λ r. cond (y == 10) ([] ∷ r) (onto_first y r)) (parts_of-push_other b x h) ∙ other_step (y == 10) y x (parts_of b) (length-parts_of b)

pub closed_lines-push_lf : (b : List ℕ) → closed_lines (b ++ 10 ∷ []) ≡ closed_lines b ++ open_line b ∷ []
closed_lines-push_lf b = ap prefix_of (parts_of-push_lf b) ∙ (prefix_of-push (parts_of b) [] ∙ sym (prefix_of-last_of (parts_of b) (length-parts_of b)))

pub open_line-push_lf : (b : List ℕ) → open_line (b ++ 10 ∷ []) ≡ []
open_line-push_lf b = ap last_of (parts_of-push_lf b) ∙ last_of-push (parts_of b) []

closed_lines-push_other : (b : List ℕ) (x : ℕ) → eqb x 10 ≡ false → closed_lines (b ++ x ∷ []) ≡ closed_lines b
unfolding longer
closed_lines-push_other b x h = ap prefix_of (parts_of-push_other b x h) ∙ prefix_of-push (prefix_of (parts_of b)) (last_of (parts_of b) ++ x ∷ [])

open_line-push_other : (b : List ℕ) (x : ℕ) → eqb x 10 ≡ false → open_line (b ++ x ∷ []) ≡ open_line b ++ x ∷ []
unfolding longer
open_line-push_other b x h = ap last_of (parts_of-push_other b x h) ∙ last_of-push (prefix_of (parts_of b)) (last_of (parts_of b) ++ x ∷ [])

-- no byte is an LF
pub record HasNoLf (x : List ℕ) : Type 0 where
  pub none : (k : ℕ) → k < length x → eqb (get_or x k 0) 10 ≡ false

HasNoLf-tail : (y : ℕ) (x : List ℕ) → HasNoLf (y ∷ x) → HasNoLf x
HasNoLf-tail y x h = record { none = λ k lt. h.none (suc k) (omega arith) }

pub closed_lines-append : (b x : List ℕ) → HasNoLf x → closed_lines (b ++ x) ≡ closed_lines b
closed_lines-append b [] h = ap closed_lines (append-nil b)
closed_lines-append b (y ∷ x) h =
    ap closed_lines (sym (append_assoc b (y ∷ []) x)) ∙ (closed_lines-append (b ++ y ∷ []) x (HasNoLf-tail y x h) ∙ closed_lines-push_other b y (h.none 0 (omega arith)))

pub open_line-append : (b x : List ℕ) → HasNoLf x → open_line (b ++ x) ≡ open_line b ++ x
open_line-append b [] h = ap open_line (append-nil b) ∙ sym (append-nil (open_line b))
open_line-append b (y ∷ x) h =
    ap open_line (sym (append_assoc b (y ∷ []) x)) ∙ (open_line-append (b ++ y ∷ []) x (HasNoLf-tail y x h)
    ∙ (ap (λ r. r ++ x) (open_line-push_other b y (h.none 0 (omega arith))) ∙ append_assoc (open_line b) (y ∷ []) x))

-- what follows adds lines behind
pub closed_lines-prefix : (g more : List ℕ) → (rest : List (List ℕ)) × (closed_lines (g ++ more) ≡ closed_lines g ++ rest)
closed_lines-prefix g [] = ([], ap closed_lines (append-nil g) ∙ sym (append-nil (closed_lines g)))
closed_lines-prefix g (x ∷ more) =
    let (rest, e) = closed_lines-prefix (g ++ x ∷ []) more in
    let on : closed_lines (g ++ x ∷ more) ≡ closed_lines (g ++ x ∷ []) ++ rest = ap closed_lines (sym (append_assoc g (x ∷ []) more)) ∙ e in
    ⊎_elim
    (λ (same : (eqb x 10 ≡ true) × (x ≡ 10)).
    let lf : closed_lines (g ++ x ∷ []) ≡ closed_lines g ++ open_line g ∷ [] = ap (λ y. closed_lines (g ++ y ∷ [])) same.1 ∙ closed_lines-push_lf g in
    (open_line g ∷ rest, on ∙ (ap (λ r. r ++ rest) lf ∙ append_assoc (closed_lines g) (open_line g ∷ []) rest)))
    (λ (other : (eqb x 10 ≡ false) × (x ≢ 10)). (rest, on ∙ ap (λ r. r ++ rest) (closed_lines-push_other g x other.0)))
    (eqb_tells x 10)

length-prefix_of : (s : List (List ℕ)) → length (prefix_of s) ≡ length s - 1
length-prefix_of [] = refl
length-prefix_of (x ∷ []) = omega arith
length-prefix_of (x ∷ y ∷ more) = omega (arith, length-prefix_of (y ∷ more))

-- each closed line took a byte
pub length-closed_lines : (g : List ℕ) → length (closed_lines g) ≤ length g
length-closed_lines g = omega (arith, length-prefix_of (parts_of g), length-slice_split (λ (x : ℕ). x == 10) g, count_by-le-length (λ (x : ℕ). x == 10) g)
