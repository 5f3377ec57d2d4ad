-- The bytes of a date of a Hijri calendar.
use Rattle.std.specs.Prelude.{ℕ, ◌+◌, ◌*◌, ◌/◌, ◌%◌, ◌++◌, nat_eq, int_lt, if◌then◌else◌, unsigned_abs, min, List, ℤ, pos, neg_ℤ, slice_index}
use Rattle.date_bytes.specs.Bytes.{bytes_of, date_bytes}

-- bits 0 to 11: the months with 30 days, given as one number; bit 12: whether the offset is negative;
-- bits 13 to 15: its size
abbrev pub hijri_bits : ℕ → ℤ → ℕ
hijri_bits long offset = long + 4096 * (if int_lt offset (pos 0) then 1 else 0) + 8192 * unsigned_abs offset

abbrev pub hijri_bytes : ℤ → ℕ → ℤ → ℕ → ℕ → List ℕ
hijri_bytes year long offset month day = bytes_of 2 (pos (hijri_bits long offset)) ++ date_bytes year month day

-- what the bytes hold
abbrev pub bits_in : List ℕ → ℕ
bits_in bytes = slice_index bytes 0 + 256 * slice_index bytes 1

abbrev pub long_in : List ℕ → ℕ
long_in bytes = bits_in bytes % 4096

-- a size above 5, which no year has, is read as 5
abbrev pub offset_of : ℕ → ℤ
offset_of bits = let size = min (bits / 8192) 5 in if nat_eq (bits / 4096 % 2) 1 then neg_ℤ (pos size) else pos size

abbrev pub offset_in : List ℕ → ℤ
offset_in bytes = offset_of (bits_in bytes)
