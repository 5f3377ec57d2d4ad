-- The one day that a place names.
use Rattle.std.specs.Prelude.{◌≡◌, ℕ, MatchOption, Option, ℤ}
use Rattle.cal_rrule.specs.Stretches.{Stretch}

abbrev pub stretch : ℤ → ℕ → Stretch
stretch first days = record { first = first; days = days }

-- what was found is the only day of a kind, or there is none
abbrev pub IsOnly : (ℤ → Type 0) → Option ℤ → Type 0
IsOnly Is found = MatchOption found ((n : ℤ) → ¬ (Is n)) (λ day. Is day × ((n : ℤ) → Is n → n ≡ day))
