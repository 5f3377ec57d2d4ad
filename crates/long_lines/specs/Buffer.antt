-- What the buffer of a long line holds.
use Rattle.std.specs.Prelude.{◌≡◌, ℕ, nat_lt, List, length, take}
use Rattle.long_lines.specs.declared.buffer.LongLine.{LongLine}

-- the first 65536 bytes of the line, and whether there are more
pub record Holds (buffer : LongLine) (line : List ℕ) : Type 0 where
  pub prefix : buffer.prefix.items ≡ take 65536 line
  pub over : buffer.over ≡ nat_lt 65536 (length line)
