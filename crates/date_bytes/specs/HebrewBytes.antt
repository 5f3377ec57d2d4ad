-- The bytes of a date of the Hebrew calendar.
use Rattle.std.specs.Prelude.{ℕ, ◌⊎◌, ◌∷◌, nat_lt, if◌then◌else◌, ◌-◌, ◌+◌, List, ℤ, slice_index, ◌≤◌}
use Rattle.date_bytes.specs.Bytes.{date_bytes}

-- a common year has 353 to 355 days, and a leap year 383 to 385
abbrev pub IsHebrewLength : ℕ → Type 0
IsHebrewLength n = ((353 ≤ n) × (n ≤ 355)) ⊎ ((383 ≤ n) × (n ≤ 385))

-- the lengths by their places: 353, 354, 355, 383, 384, 385
abbrev pub length_of : ℕ → ℕ
length_of class = if nat_lt class 3 then 353 + class else (if nat_lt class 5 then 380 + class else 385)

-- the place of a length
abbrev pub class_of : ℕ → ℕ
class_of length = if nat_lt length 383 then length - 353 else length - 380

abbrev pub hebrew_bytes : ℤ → ℕ → ℕ → ℕ → List ℕ
hebrew_bytes year length month day = class_of length ∷ date_bytes year month day

abbrev pub length_in : List ℕ → ℕ
length_in bytes = length_of (slice_index bytes 0)
