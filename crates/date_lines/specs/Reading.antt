-- Reading a text from its front, part by part, to the first bad byte.
use Rattle.std.specs.Prelude.{ℕ, zero, suc, ◌+◌, ◌-◌, ◌*◌, ◌==◌, Bool, true, false, not, position, List, [], ◌∷◌, length, take, drop, Result, Ok, Err, if◌then◌else◌, ℤ, pos, neg_ℤ}
use Rattle.std.specs.Borrow.{Bor}
use Rattle.std.specs.Option.{unwrap_or}
use Rattle.std.specs.Char.{is_ascii_digit, is_ascii_lowercase}
use Rattle.word_values.specs.Numbers.{digits_value}

-- what was read, and the bytes behind it; or the bytes from the first bad one on
abbrev pub Reading : Type 0 → Type 0
Reading A = Result (A × List ℕ) (List ℕ)

-- one reading, and then another of the bytes behind it
abbrev pub and_then : {A B : Type 0} → Reading A → (A → List ℕ → Reading B) → Reading B
and_then (Err rest) next = Err rest
and_then (Ok (x, rest)) next = next x rest

-- what a function read
abbrev pub read_by : {A B : Type 0} → (A → B) → Result (A × Bor (List ℕ)) (Bor (List ℕ)) → Reading B
read_by f (Ok (x, rest)) = Ok (f x, rest.now)
read_by f (Err rest) = Err rest.now

abbrev pub read_view : {A : Type 0} → Result (A × Bor (List ℕ)) (Bor (List ℕ)) → Reading A
read_view r = read_by (λ x. x) r

-- the bytes behind a byte
abbrev pub Behind : Type 0
Behind = Result (List ℕ) (List ℕ)

abbrev pub rest_view : Result (Bor (List ℕ)) (Bor (List ℕ)) → Behind
rest_view (Ok rest) = Ok rest.now
rest_view (Err rest) = Err rest.now

abbrev pub behind : {A : Type 0} → Behind → (List ℕ → Reading A) → Reading A
behind (Err rest) next = Err rest
behind (Ok rest) next = next rest

-- how many digits a text begins with, up to a number
abbrev pub digit_count : ℕ → List ℕ → ℕ
digit_count zero text = 0
digit_count (suc most) [] = 0
digit_count (suc most) (b ∷ text) = if is_ascii_digit b then suc (digit_count most text) else 0

-- the number of the first digits
abbrev pub number_ahead : ℕ → List ℕ → Reading ℕ
number_ahead count text = if count == 0 then Err text else Ok (digits_value (take count text), drop count text)

-- one to `most` digits
abbrev pub digits_read : ℕ → List ℕ → Reading ℕ
digits_read most text = number_ahead (digit_count most text) text

-- a number with its sign
abbrev pub positive : ℕ → List ℕ → Reading ℤ
positive n rest = Ok (pos n, rest)

abbrev pub negative : ℕ → List ℕ → Reading ℤ
negative n rest = Ok (neg_ℤ (pos n), rest)

-- one to nine digits
unfoldable pub unsigned_read : List ℕ → Reading ℤ
unsigned_read text = and_then (digits_read 9 text) positive

-- an optional `-` or `+`, and one to nine digits
unfoldable pub int_read : List ℕ → Reading ℤ
int_read [] = unsigned_read []
int_read (sign ∷ rest) =
    if sign == 45 then and_then (digits_read 9 rest) negative
    else (if sign == 43 then unsigned_read rest else unsigned_read (sign ∷ rest))

-- one digit
unfoldable pub digit_read : List ℕ → Reading ℕ
digit_read [] = Err []
digit_read (b ∷ rest) = if is_ascii_digit b then Ok (b - 48, rest) else Err (b ∷ rest)

-- a digit more, where there is one
abbrev pub second_read : ℕ → List ℕ → Reading ℕ
second_read n [] = Ok (n, [])
second_read n (b ∷ rest) = if is_ascii_digit b then Ok (10 * n + (b - 48), rest) else Ok (n, b ∷ rest)

-- one or two digits
unfoldable pub short_read : List ℕ → Reading ℕ
short_read [] = Err []
short_read (b ∷ rest) = if is_ascii_digit b then second_read (b - 48) rest else Err (b ∷ rest)

-- this byte
abbrev pub byte_read : ℕ → List ℕ → Behind
byte_read byte [] = Err []
byte_read byte (b ∷ rest) = if b == byte then Ok rest else Err (b ∷ rest)

-- how many letters `a` to `z` a text begins with, up to 16
abbrev pub is_other : ℕ → Bool
is_other b = not (is_ascii_lowercase b)

abbrev pub letter_count : List ℕ → ℕ
letter_count text = unwrap_or (position is_other (take 16 text)) (length (take 16 text))
