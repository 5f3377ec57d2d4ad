-- Taking a word that is known, or a key that begins a word.
use Rattle.std.specs.Prelude.{◌≡◌, ℕ, Bool, true, false, not, ◌==◌, List, [], ◌∷◌, Option, Some, None, length, drop, if◌then◌else◌}
use Rattle.request_lines.specs.Words.{is_text}
use Rattle.request_lines.specs.Bags.{has_key}

-- whether a byte is no space
abbrev pub is_no_space : ℕ → Bool
is_no_space b = not (b == 32)

-- the words behind a word that is known, where it is the first
abbrev pub after_word : List ℕ → List (List ℕ) → Option (List (List ℕ))
after_word name [] = None
after_word name (word ∷ words) = if is_text word name then Some words else None

-- the words with the key taken off the first, where it begins with it
abbrev pub after_key : List ℕ → List (List ℕ) → Option (List (List ℕ))
after_key key [] = None
after_key key (word ∷ words) = if has_key key word then Some (drop (length key) word ∷ words) else None

-- what was to be taken is taken, or it isn't there and the words stay
abbrev pub IsTaken : Bool → Option (List (List ℕ)) → List (List ℕ) → List (List ℕ) → Type 0
IsTaken true after old new = after ≡ Some new
IsTaken false after old new = (after ≡ None) × (new ≡ old)
