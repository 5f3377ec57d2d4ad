-- A look for an LF, behind some bytes that were looked at before.
use Rattle.std.specs.Prelude.{◌≡◌, ℕ, List, [], ◌∷◌, ◌++◌, take, Option, Some, None}
use Rattle.long_lines.specs.Buffer.{Holds}
use Rattle.byte_io.specs.Lines.{closed_lines, open_line}
use Rattle.long_lines.specs.declared.buffer.LongLine.{LongLine}

-- bytes that end a line by their LF, and that line
pub record EndsLine (new : LongLine) (bytes before : List ℕ) : Type 0 where
  pub line : List ℕ
  pub holds : Holds new line
  pub closed : closed_lines (before ++ bytes) ≡ closed_lines before ++ line ∷ []
  pub rest : open_line (before ++ bytes) ≡ []

-- bytes without an LF, by which the line goes on
pub record GoesOn (new : LongLine) (bytes before : List ℕ) : Type 0 where
  pub holds : Holds new (open_line (before ++ bytes))
  pub closed : closed_lines (before ++ bytes) ≡ closed_lines before

-- the line ends with the first n bytes, or goes on by all of them
abbrev pub Looks : Option ℕ → List ℕ → LongLine → LongLine → Type 0
Looks (Some n) bytes old new = (before : List ℕ) → Holds old (open_line before) → EndsLine new (take n bytes) before
Looks None bytes old new = (before : List ℕ) → Holds old (open_line before) → GoesOn new bytes before
