-- Texts that are joined by a byte.
use Rattle.std.specs.Prelude.{ℕ, ◌+◌, ◌==◌, List, [], take, drop, Option, Some, None, position}
use Rattle.std.specs.Option.{option_map}
use Rattle.std.specs.List.{slice_split}
use Rattle.std.specs.Borrow.{Bor}

-- what stands between the bytes: one text more than there are of them
abbrev pub pieces_of : ℕ → List ℕ → List (List ℕ)
pieces_of mark text = slice_split (λ b. b == mark) text

-- the same of the text that is left, if there is one
abbrev pub pieces_from : ℕ → Option (Bor (List ℕ)) → List (List ℕ)
pieces_from mark None = []
pieces_from mark (Some rest) = pieces_of mark rest.now

-- what stands before and behind the first of the bytes, if there is one
abbrev pub halves_of : ℕ → List ℕ → Option (List ℕ × List ℕ)
halves_of mark text = option_map (λ i. (take i text, drop (i + 1) text)) (position (λ b. b == mark) text)
