-- Where a reader of long lines stands.
use Rattle.std.specs.Prelude.{◌≡◌, ℕ, ◌-◌, Bool, true, false, List, [], ◌∷◌, ◌++◌}
use Rattle.byte_io.specs.Lines.{closed_lines, open_line}
use Rattle.byte_io.specs.Reader.{unseen}
use Rattle.long_lines.specs.Buffer.{Holds}
use Rattle.long_lines.specs.declared.buffer.LongLine.{LongLine}
use Rattle.long_lines.specs.declared.reader.LineReader.{LineReader}

-- the bytes of the chunk that weren't looked at
abbrev pub bytes_left : LineReader → ℕ
bytes_left r = r.end - r.at

-- all of the chunk was looked at
abbrev pub IsSpent : LineReader → Type 0
IsSpent r = r.at ≡ r.end

-- these bytes came, these lines were given, and behind them this rest was looked at
pub record IsAt (r : LineReader) (bytes : List ℕ) (lines : List (List ℕ)) (rest : List ℕ) : Type 0 where
  pub looked : List ℕ
  pub parts : looked ++ unseen r.chunk r.at r.end ≡ bytes
  pub given : closed_lines looked ≡ lines
  pub behind : open_line looked ≡ rest

-- the next line
pub record GivesLine (r : LineReader) (buffer : LongLine) (bytes : List ℕ) (lines : List (List ℕ)) : Type 0 where
  pub line : List ℕ
  pub holds : Holds buffer line
  pub at : IsAt r bytes (lines ++ line ∷ []) []

-- all bytes that came were looked at, and their lines given
pub record GivesAll (r : LineReader) (buffer : LongLine) (bytes : List ℕ) (lines : List (List ℕ)) : Type 0 where
  pub at : IsAt r bytes lines (open_line bytes)
  pub holds : Holds buffer (open_line bytes)
  pub all : closed_lines bytes ≡ lines

-- a line, or none
abbrev pub Gives : Bool → LineReader → LongLine → List ℕ → List (List ℕ) → Type 0
Gives true r buffer bytes lines = GivesLine r buffer bytes lines
Gives false r buffer bytes lines = GivesAll r buffer bytes lines
