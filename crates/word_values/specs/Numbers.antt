-- The numbers that words spell.
use Rattle.std.specs.Prelude.{◌≡◌, ◌≤◌, ◌<◌, true, false, take, ℕ, ◌+◌, ◌*◌, ◌-◌, Bool, List, fold, ◌==◌, nat_lt, nat_le, ◌&&◌, length, drop, slice_index, Option, Some, None, if◌then◌else◌, ℤ, pos, neg_ℤ}
use Rattle.std.specs.List.{list_all}
use Rattle.std.specs.Option.{option_map, option_and_then}
use Rattle.std.specs.Char.{is_ascii_digit}

-- whether the word is one to `most` digits
abbrev pub is_number : ℕ → List ℕ → Bool
is_number most word = (nat_lt 0 (length word) && nat_le (length word) most) && list_all is_ascii_digit word

-- the number that decimal digits spell
abbrev pub digits_value : List ℕ → ℕ
digits_value word = fold (λ n c. n * 10 + (c - 48)) 0 word

-- the number of one to `most` digits
abbrev pub number_of : ℕ → List ℕ → Option ℕ
number_of most word = if is_number most word then Some (digits_value word) else None

-- the first so many bytes are digits, and all that a text begins with, and they spell the number
pub record AreLeadingDigits (text : List ℕ) (count value : ℕ) : Type 0 where
  pub within : count ≤ length text
  pub digits : list_all is_ascii_digit (take count text) ≡ true
  pub spell : value ≡ digits_value (take count text)
  pub stop : count < length text → is_ascii_digit (slice_index text count) ≡ false

-- the number below zero
abbrev pub minus : ℕ → ℤ
minus n = neg_ℤ (pos n)

-- an optional minus and one to nine digits
abbrev pub int_of : List ℕ → Option ℤ
int_of word =
    if slice_index word 0 == 45 then option_map minus (number_of 9 (drop 1 word)) else option_map pos (number_of 9 word)

-- the number, where it fits a byte
abbrev pub byte_from : ℕ → Option ℕ
byte_from n = if nat_le n 255 then Some n else None

-- one to three digits with a value up to 255
abbrev pub byte_of : List ℕ → Option ℕ
byte_of word = option_and_then byte_from (number_of 3 word)
