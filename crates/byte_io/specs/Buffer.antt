-- What the buffer of a line holds.
use Rattle.std.specs.Prelude.{◌≡◌, ℕ, nat_lt, List, length, take}
use Rattle.byte_io.specs.declared.buffer.LineBuffer.{LineBuffer}

-- the first 512 bytes of the line, and whether there are more
pub record Holds (buffer : LineBuffer) (line : List ℕ) : Type 0 where
  pub prefix : buffer.prefix.items ≡ take 512 line
  pub over : buffer.over ≡ nat_lt 512 (length line)
