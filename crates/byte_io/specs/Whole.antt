-- A source that is read to its end.
use Rattle.std.specs.Prelude.{ℕ, ◌<◌, ◌≤◌, List, length, Option}
use Rattle.std.specs.Io.KnownBytes.{Consumes, IsAtEnd}
use Rattle.byte_io.specs.Faults.{Rose}
use Rattle.byte_io.specs.declared.whole.ReadAllError.{ReadAllError}
use Rattle.byte_io.specs.declared.whole.ReadAllError.TheVariants.{Fault, TooLong, NoMemory}

-- these are all the bytes that were left, and they are within a limit
pub record AreAll (left now : Option (List ℕ)) (limit : ℕ) (bytes : List ℕ) : Type 0 where
  pub took : Consumes left now bytes
  pub at_end : IsAtEnd now
  pub within : length bytes ≤ limit

-- what is so of the bytes that came, and of the source's faults, where reading ended early
abbrev pub EndsEarly : ReadAllError → ℕ → List ℕ → ℕ → ℕ → Type 0
EndsEarly Fault limit bytes before now = (length bytes ≤ limit) × Rose before now
EndsEarly TooLong limit bytes before now = limit < length bytes
EndsEarly NoMemory limit bytes before now = (0 < length bytes) × (length bytes ≤ limit)

-- some bytes came, and then reading ended early
abbrev pub StopsEarly : ReadAllError → ℕ → Option (List ℕ) → Option (List ℕ) → ℕ → ℕ → Type 0
StopsEarly why limit left now before more =
    (bytes : List ℕ) × Consumes left now bytes × EndsEarly why limit bytes before more
