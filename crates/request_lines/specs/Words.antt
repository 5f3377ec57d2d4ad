-- The words of a line.
use Rattle.std.specs.Prelude.{ℕ, Bool, List, ◌==◌, nat_eq}
use Rattle.std.specs.List.{slice_split}
use lib.Pointwise.{pointwise}

-- whether two texts are the same
abbrev pub is_text : List ℕ → List ℕ → Bool
is_text a b = pointwise nat_eq a b

-- what stands between the spaces
abbrev pub words_of : List ℕ → List (List ℕ)
words_of line = slice_split (λ b. b == 32) line
