-- What the program holds of stretches and of the first days of rules.
use Rattle.std.specs.Prelude.{◌≡◌, ◌<◌, ℕ, ℤ, ◌⊎◌, ⊤, MatchOption, List, get_or, Option, Some, None}
use Rattle.cal_holidays.specs.Merging.{IsBefore, Stretch}
use Rattle.cal_types.specs.declared.window.Window.{Window}
use Rattle.cal_holidays.specs.declared.rest.Rest.{Rest}
use Rattle.cal_holidays.specs.declared.first.First.{First}

-- the stretch that is left
abbrev pub stretch_of : Rest → Stretch
stretch_of r = record { first = r.window.first; last = r.window.last; first_rule = r.first_rule }

-- a day and a rule
abbrev pub pair_of : First → ℤ × ℕ
pair_of f = (f.day, f.rule)

-- one that may be there isn't before another
abbrev pub IsNotBefore : Option First → First → Type 0
IsNotBefore other f = MatchOption other ⊤ (λ o. IsBefore o.day o.rule f.day f.rule → ⊥)

-- the earlier of two, where they are there
abbrev pub IsEarlier : Option First → Option First → Option First → Type 0
IsEarlier a b found =
    MatchOption found ((a ≡ None) × (b ≡ None))
    (λ f. ((a ≡ Some f) ⊎ (b ≡ Some f)) × IsNotBefore a f × IsNotBefore b f)

-- the earliest of the first so many of some, where any is there
abbrev pub IsEarliest : List (Option First) → ℕ → Option First → Type 0
IsEarliest all n found =
    MatchOption found ((i : ℕ) → i < n → get_or all i None ≡ None)
    (λ f. ((i : ℕ) × (i < n) × (get_or all i None ≡ Some f)) × ((i : ℕ) → i < n → IsNotBefore (get_or all i None) f))

-- the days of a window from one on
abbrev pub IsWindowFrom : Window → ℤ → Option Window → Type 0
IsWindowFrom w n found = MatchOption found ⊥ (λ r. (r.first ≡ n) × (r.last ≡ w.last))
