-- The words of a command line that is one text, with a single space between two words.
use Rattle.std.specs.Prelude.{ℕ, nat_eq, List, [], ◌∷◌, if◌then◌else◌}

-- words, the first of which begins with a byte more
abbrev pub with_first : ℕ → List (List ℕ) → List (List ℕ)
with_first b [] = (b ∷ []) ∷ []
with_first b (word ∷ words) = (b ∷ word) ∷ words

-- the words of a text, which stand between single spaces (32)
abbrev pub words_in : List ℕ → List (List ℕ)
words_in [] = [] ∷ []
words_in (b ∷ rest) = if nat_eq b 32 then [] ∷ words_in rest else with_first b (words_in rest)
