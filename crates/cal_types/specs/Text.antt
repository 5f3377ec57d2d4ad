-- Small ASCII texts.
use Rattle.std.specs.Prelude.{◌≡◌, ℕ, ◌-◌, ◌≤◌, Bool, true, List, ◌++◌, ◌&&◌, nat_lt, length, take, replicate}
use Rattle.std.specs.List.{list_all}

-- a byte from 1 to 127
abbrev pub is_text_byte : ℕ → Bool
is_text_byte b = nat_lt 0 b && nat_lt b 128

-- bytes that are an ASCII text without the byte 0
abbrev pub IsText : List ℕ → Type 0
IsText bs = list_all is_text_byte bs ≡ true

-- a text filled with 0 to n bytes
abbrev pub filled : ℕ → List ℕ → List ℕ
filled n bs = bs ++ replicate (n - length bs) 0

-- an array of n bytes that holds a text of `len` bytes: the text stands first, and zeros follow
pub record HoldsText (n : ℕ) (bytes : List ℕ) (len : ℕ) : Type 0 where
  pub fits : len ≤ length bytes
  pub size : length bytes ≡ n
  pub zeros : bytes ≡ filled n (take len bytes)
  pub text : IsText (take len bytes)
