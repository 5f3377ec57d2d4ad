-- Reading words one after another.
use Rattle.std.specs.Prelude.{◌≡◌, List, [], ◌∷◌, ℕ, Option, Some, None, MatchOption}
use Rattle.std.specs.Option.{option_map}

-- what the first of some words say, and the words behind them
abbrev pub Read : Type 0 → Type 0
Read T = Option (T × List (List ℕ))

-- the next word, where there is one and it is read
abbrev pub next_word : {T : Type 0} → (List ℕ → Option T) → List (List ℕ) → Read T
next_word read [] = None
next_word read (word ∷ words) = option_map (λ x. (x, words)) (read word)

-- one reading, and then another of the words behind it
abbrev pub and_then : {T U : Type 0} → Read T → (T → List (List ℕ) → Option U) → Option U
and_then None next = None
and_then (Some (x, words)) next = next x words

-- a reading was made, and these words are left; or there is none
abbrev pub IsReading : {T : Type 0} → Read T → Option T → List (List ℕ) → Type 0
IsReading reading result left = MatchOption result (reading ≡ None) (λ x. reading ≡ Some (x, left))
