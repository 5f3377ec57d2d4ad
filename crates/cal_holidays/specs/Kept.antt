-- What a list of holidays keeps: for each place the first day of its rules.
use Rattle.std.specs.Prelude.{◌≡◌, ◌<◌, ℕ, ℤ, Bool, List, get_or, Option, Some, None, option_map}
use Rattle.cal_holidays.specs.Found.{pair_of, stretch_of}
use Rattle.cal_holidays.specs.Merging.{IsFirst, IsInPlace, PLACES}
use Rattle.cal_holidays.specs.declared.first.First.{First}
use Rattle.cal_holidays.specs.declared.rest.Rest.{Rest}

-- the first days of the places below a bound
abbrev pub AreFirsts : (ℕ → ℤ → Bool) → ℕ → Rest → List (Option First) → ℕ → Type 0
AreFirsts names count rest firsts below =
    (place : ℕ) → place < below
    → IsFirst names count (IsInPlace place) (stretch_of rest) (option_map pair_of (get_or firsts place None))

-- those of all places, where anything is left
abbrev pub AreKept : (ℕ → ℤ → Bool) → ℕ → Option Rest → List (Option First) → Type 0
AreKept names count left firsts = (rest : Rest) → left ≡ Some rest → AreFirsts names count rest firsts PLACES
