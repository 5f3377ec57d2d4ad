-- The lines of an input: those whose LF came, and what follows the last one.
use Rattle.std.proofs.Common.{◌≡◌, ℕ, ◌≤◌, Bool, true, false, cond, nat_lt, List, [], ◌∷◌, ◌++◌, length, ◌==◌, Option, ◌⊎◌, inl, inr, refl, arith, ◌∙◌, ap, subst}
use Rattle.std.proofs.lemmas.List.{append-nil, append_assoc}
use Rattle.std.specs.Io.KnownBytes.{Consumes}
use borrow.Author.Tests.{ltb-false}
use Rattle.std.proofs.lemmas.Bool.{eqb-true}
use Rattle.byte_io.specs.Lines.{closed_lines, open_line, lines_in}
use Rattle.byte_io.proofs.PartLemmas.{closed_lines-prefix}
use Rattle.table_rows.specs.Gathering.{with_open_line}
use Rattle.std.proofs.KnownBytes.{Consumes-trans}

-- the lines of what has come of an input are the first of those of what comes of it later
pub lines_in-prefix : (bytes more : List ℕ) (whole : Bool) → (others : List (List ℕ)) × (lines_in (bytes ++ more) whole ≡ lines_in bytes false ++ others)
lines_in-prefix bytes more false = closed_lines-prefix bytes more
lines_in-prefix bytes more true =
    let (others, e) = closed_lines-prefix bytes more in
    opened (nat_lt 0 (length (open_line (bytes ++ more)))) (closed_lines (bytes ++ more)) (closed_lines bytes) others (open_line (bytes ++ more)) e
  where
    opened : (c : Bool) (all first others : List (List ℕ)) (last : List ℕ) → all ≡ first ++ others → (rest : List (List ℕ)) × (cond c (all ++ last ∷ []) all ≡ first ++ rest)
    opened true all first others last e = (others ++ last ∷ [], ap (λ t. t ++ last ∷ []) e ∙ append_assoc first others (last ∷ []))
    opened false all first others last e = (others, e)

-- the last read gave nothing
pub consumes_end : (a b c : Option (List ℕ)) (x : List ℕ) → Consumes a b x → Consumes b c [] → Consumes a c x
consumes_end a b c x p q = subst (λ (y : List ℕ). Consumes a c y) (append-nil x) (Consumes-trans a b c x [] p q)

-- the lines of the whole input
pub lines_in-whole : (bytes : List ℕ) (lines : List (List ℕ)) → lines_in bytes false ≡ lines → lines_in bytes true ≡ with_open_line lines (open_line bytes)
lines_in-whole bytes lines all = ap (λ y. with_open_line y (open_line bytes)) all

-- what follows the last LF is nothing, or a line
abbrev pub IsOpen : List (List ℕ) → List ℕ → Type 0
IsOpen lines last = ((last ≡ []) × (with_open_line lines last ≡ lines)) ⊎ (with_open_line lines last ≡ lines ++ last ∷ [])

pub open_or_none : (lines : List (List ℕ)) (last : List ℕ) → IsOpen lines last
open_or_none lines last = by (nat_lt 0 (length last)) refl
  where
    none : (xs : List ℕ) → length xs ≤ 0 → xs ≡ []
    none [] h = refl
    none (x ∷ xs) h = absurd (omega (arith, h))

    by : (c : Bool) → nat_lt 0 (length last) ≡ c → IsOpen lines last
    by true e = inr (ap (λ t. cond t (lines ++ last ∷ []) lines) e)
    by false e = inl (none last (ltb-false 0 (length last) e), ap (λ t. cond t (lines ++ last ∷ []) lines) e)

-- a length of 0
pub is_none : (xs : List ℕ) → (length xs == 0) ≡ true → xs ≡ []
is_none [] e = refl
is_none (x ∷ xs) e = let zero : length (x ∷ xs) ≡ 0 = eqb-true _ _ e in absurd (omega arith)

pub is_some : (xs : List ℕ) → (length xs == 0) ≡ false → xs ≡ [] → ⊥
is_some xs e none = differ (subst (λ (y : List ℕ). (length y == 0) ≡ false) none e)
  where
    differ : ◌≡◌ {A = Bool} true false → ⊥
    differ e = cc

-- what follows the last LF is a line where it isn't empty
pub opened : (lines : List (List ℕ)) (last : List ℕ) → (last ≡ [] → ⊥) → with_open_line lines last ≡ lines ++ last ∷ []
opened lines last some = by (open_or_none lines last)
  where
    by : IsOpen lines last → with_open_line lines last ≡ lines ++ last ∷ []
    by (inl (none, same)) = absurd (some none)
    by (inr more) = more
