-- Where a reader of lines stands.
use Rattle.std.specs.Prelude.{◌≡◌, ℕ, ◌+◌, ◌-◌, ◌*◌, ◌<◌, ◌≤◌, Bool, false, nat_lt, if◌then◌else◌, List, [], ◌∷◌, ◌++◌, length, take, drop}
use Rattle.byte_io.specs.Buffer.{Holds}
use Rattle.byte_io.specs.Lines.{closed_lines, open_line, lines_in}
use Rattle.byte_io.specs.declared.buffer.LineBuffer.{LineBuffer}
use Rattle.byte_io.specs.declared.reader.Reader.{Reader}
use Rattle.byte_io.specs.declared.reader.Next.{Next}
use Rattle.byte_io.specs.declared.reader.Next.TheVariants.{Line, Spent, TooLong}

-- the most bytes that are read
abbrev pub limit : ℕ
limit = 16777216

-- the bytes of a chunk that weren't looked at
abbrev pub unseen : List ℕ → ℕ → ℕ → List ℕ
unseen chunk at end = take (end - at) (drop at chunk)

-- how many lines were given
abbrev pub lines_given : Reader → ℕ
lines_given r = r.lines

-- a number that falls with each line and with each chunk
abbrev pub turns_left : Reader → ℕ
turns_left r = 2 * (limit - r.total) + (r.end - r.at) + (if r.beyond then 0 else 1)

-- all of the chunk was looked at, and the limit wasn't passed
pub record IsSpent (r : Reader) : Type 0 where
  pub used : r.at ≡ r.end
  pub within : r.beyond ≡ false

-- of the bytes that came, these were looked at
pub record HasLooked (unseen : List ℕ) (total : ℕ) (beyond : Bool) (bytes looked : List ℕ) : Type 0 where
  pub parts : looked ++ unseen ≡ take limit bytes
  pub size : total ≡ length (take limit bytes)
  pub more : beyond ≡ nat_lt limit (length bytes)

-- these bytes came, these lines were given, and behind them this rest was looked at
pub record IsAt (r : Reader) (bytes : List ℕ) (lines : List (List ℕ)) (rest : List ℕ) : Type 0 where
  pub looked : List ℕ
  pub seen : HasLooked (unseen r.chunk r.at r.end) r.total r.beyond bytes looked
  pub given : closed_lines looked ≡ lines
  pub behind : open_line looked ≡ rest

-- the next line
pub record GivesLine (r : Reader) (buffer : LineBuffer) (bytes : List ℕ) (lines : List (List ℕ)) : Type 0 where
  pub line : List ℕ
  pub holds : Holds buffer line
  pub at : IsAt r bytes (lines ++ line ∷ []) []
  pub count : length lines + 1 ≤ limit

-- all bytes that came were looked at, and their lines given
pub record GivesAll (r : Reader) (buffer : LineBuffer) (bytes : List ℕ) (lines : List (List ℕ)) : Type 0 where
  pub at : IsAt r bytes lines (open_line bytes)
  pub holds : Holds buffer (open_line bytes)
  pub size : length bytes ≤ limit
  pub all : lines_in bytes false ≡ lines

-- more bytes came than are read, and the lines of those within the limit were given
pub record GivesTooLong (bytes : List ℕ) (lines : List (List ℕ)) : Type 0 where
  pub size : limit < length bytes
  pub all : lines_in (take limit bytes) false ≡ lines

-- what comes next, behind the bytes that came and the lines that were given
abbrev pub Gives : Next → Reader → LineBuffer → List ℕ → List (List ℕ) → Type 0
Gives Line r buffer bytes lines = GivesLine r buffer bytes lines
Gives Spent r buffer bytes lines = GivesAll r buffer bytes lines
Gives TooLong r buffer bytes lines = GivesTooLong bytes lines
