-- The lines of a text.
use Rattle.std.specs.Prelude.{ℕ, Bool, List, [], ◌∷◌, ◌++◌, ◌==◌, ◌&&◌, nat_lt, length, if◌then◌else◌}
use Rattle.std.specs.List.{slice_split}

-- all parts but the last
abbrev pub prefix_of : List (List ℕ) → List (List ℕ)
prefix_of [] = []
prefix_of (x ∷ []) = []
prefix_of (x ∷ y ∷ more) = x ∷ prefix_of (y ∷ more)

-- the last part
abbrev pub last_of : List (List ℕ) → List ℕ
last_of [] = []
last_of (x ∷ []) = x
last_of (x ∷ y ∷ more) = last_of (y ∷ more)

-- what stands between the LFs
abbrev pub parts_of : List ℕ → List (List ℕ)
parts_of bytes = slice_split (λ b. b == 10) bytes

-- the lines whose LF is there
abbrev pub closed_lines : List ℕ → List (List ℕ)
closed_lines bytes = prefix_of (parts_of bytes)

-- what follows the last LF
abbrev pub open_line : List ℕ → List ℕ
open_line bytes = last_of (parts_of bytes)

-- the lines; of a whole text, what follows the last LF is a line too where it isn't empty
abbrev pub lines_in : List ℕ → Bool → List (List ℕ)
lines_in bytes whole =
    if whole && nat_lt 0 (length (open_line bytes)) then closed_lines bytes ++ open_line bytes ∷ []
    else closed_lines bytes
