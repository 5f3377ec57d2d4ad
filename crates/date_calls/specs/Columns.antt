-- Calls at every place of columns.
use Rattle.std.specs.Prelude.{◌≡◌, ℕ, ◌<◌, ◌&&◌, Bool, nat_eq, List, length, MatchBool}
use Rattle.std.specs.List.{slice_index_or}

-- what a single call says holds at every place below a count: of the place, of what was returned there, and of what
-- stood there before and stands there now
abbrev pub AtBelow : {O K : Type 0} → (ℕ → K → O → O → Type 0) → ℕ → List O → List O → List K → Type 0
AtBelow {O} {K} Single count before now codes = (k : ℕ) (c : K) (o : O) → k < count
    → Single k (slice_index_or codes k c) (slice_index_or before k o) (slice_index_or now k o)

-- the call was done at every place of the columns
abbrev pub AtEach : {O K : Type 0} → (ℕ → K → O → O → Type 0) → List O → List O → List K → Type 0
AtEach Single before now codes = AtBelow Single (length before) before now codes

-- a code is told, and both columns are as they were
pub record AreLeft {O K : Type 0} (why code : ℕ) (before now : List O) (codes_before codes : List K) : Type 0 where
  pub told : code ≡ why
  pub stand : now ≡ before
  pub codes_stand : codes ≡ codes_before

-- the single call was done at every place
pub record AreFilled {O K : Type 0} (Single : ℕ → K → O → O → Type 0) (code : ℕ) (before now : List O) (codes : List K)
    : Type 0 where
  pub done : code ≡ 0
  pub at : AtEach Single before now codes

-- both columns have the count of places
abbrev pub have_places : {O K : Type 0} → ℕ → List O → List K → Bool
have_places count outputs codes = nat_eq (length outputs) count && nat_eq (length codes) count

-- the single call is done at every place of columns of one length; others are as they were
abbrev pub Fills : {O K : Type 0} → (ℕ → K → O → O → Type 0) → ℕ → ℕ → List O → List O → List K → List K → Type 0
Fills Single count code before now codes_before codes =
    MatchBool (have_places count before codes_before) (AreFilled Single code before now codes)
    (AreLeft 9 code before now codes_before codes)

-- the same, where a second column that is read has to have the same length
abbrev pub FillsBoth : {O K : Type 0} → (ℕ → K → O → O → Type 0) → ℕ → ℕ → ℕ → List O → List O → List K → List K
    → Type 0
FillsBoth Single count second code before now codes_before codes =
    MatchBool (nat_eq second count) (Fills Single count code before now codes_before codes)
    (AreLeft 9 code before now codes_before codes)
