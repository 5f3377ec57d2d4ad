-- The bytes of a date of a Chinese or Korean calendar.
use Rattle.std.specs.Prelude.{ℕ, ◌+◌, ◌*◌, ◌/◌, ◌%◌, ◌++◌, ◌||◌, ◌≡◌, ◌⊎◌, ◌≤◌, nat_eq, nat_lt, if◌then◌else◌, min, List, ℤ, pos, slice_index}
use Rattle.date_bytes.specs.Bytes.{bytes_of, date_bytes}

-- bits 0 to 12: the places with 30 days, given as one number; bits 13 to 16: the leap place, or 0;
-- bits 17 to 22: the days after January 19
abbrev pub east_asian_bits : ℕ → ℕ → ℕ → ℕ
east_asian_bits long leap start = long + 8192 * leap + 131072 * start

abbrev pub east_asian_bytes : ℤ → ℕ → ℕ → ℕ → ℕ → ℕ → List ℕ
east_asian_bytes year long leap start month day =
    bytes_of 3 (pos (east_asian_bits long leap start)) ++ date_bytes year month day

-- what the bytes hold
abbrev pub bits_in : List ℕ → ℕ
bits_in bytes = slice_index bytes 0 + 256 * slice_index bytes 1 + 65536 * slice_index bytes 2

-- a leap place that no year has is read as none
abbrev pub place_of : ℕ → ℕ
place_of n = if nat_lt n 2 || nat_lt 13 n then 0 else n

abbrev pub leap_in : List ℕ → ℕ
leap_in bytes = place_of (bits_in bytes / 8192 % 16)

-- without a leap place the year has 12 places, and else 13
abbrev pub bits_of_places : ℕ → ℕ
bits_of_places leap = if nat_eq leap 0 then 4096 else 8192

abbrev pub long_in : List ℕ → ℕ
long_in bytes = bits_in bytes % bits_of_places (leap_in bytes)

-- more than 34 days, which no year has, are read as 34
abbrev pub start_in : List ℕ → ℕ
start_in bytes = min (bits_in bytes / 131072 % 64) 34

-- the place of a leap month, or 0
abbrev pub IsLeapPlace : ℕ → Type 0
IsLeapPlace n = (n ≡ 0) ⊎ ((2 ≤ n) × (n ≤ 13))
