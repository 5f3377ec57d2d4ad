-- Texts of numbers, and lines about lines.
use Rattle.std.specs.Prelude.{ℕ, ◌+◌, ◌/◌, ◌%◌, List, [], ◌∷◌, ◌++◌}
use Rattle.std.specs.Fmt.{decimal}

-- a number below 100 in two digits
abbrev pub two_digits : ℕ → List ℕ
two_digits n = (48 + n / 10) ∷ (48 + n % 10) ∷ []

-- a line about the line of number n, as `err line 3 long`
abbrev pub about_line : List ℕ → ℕ → List ℕ → List ℕ
about_line kind n what = kind ++ decimal n ++ 32 ∷ what ++ 10 ∷ []
