-- A text that is written in pieces.
use Rattle.std.specs.Prelude.{◌≡◌, ℕ, List, [], ◌∷◌, ◌++◌, Option, Result, Ok, Err}
use Rattle.std.specs.Io.KnownBytes.{Appends}
use Rattle.byte_io.specs.declared.Failed.{Failed}
use Rattle.calspan_run.specs.Written.{WrotePrefix}

-- what was written and what is pending are the text so far
pub record TextSoFar (before now : Option (List ℕ)) (pending text : List ℕ) : Type 0 where
  pub written : List ℕ
  pub wrote : Appends before now written
  pub all : written ++ pending ≡ text

-- a piece was pushed, and this is the text then; where a write failed, a prefix of it was written
abbrev pub Pushed : {T : Type 0} → Result T Failed → Option (List ℕ) → Option (List ℕ) → List ℕ → List ℕ → Type 0
Pushed (Ok x) before now pending text = TextSoFar before now pending text
Pushed (Err e) before now pending text = WrotePrefix before now text

-- the lines of items, one behind another
abbrev pub lines_text : {A : Type 0} → (A → List ℕ) → List A → List ℕ
lines_text line [] = []
lines_text line (x ∷ more) = line x ++ lines_text line more
