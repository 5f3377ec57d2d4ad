-- What a list of holidays still has to give, and what is left after an item.
use Rattle.std.specs.Prelude.{◌≡◌, ℕ, ℤ, Bool, ⊤, MatchOption, List, Option, None, option_map}
use Rattle.cal_holidays.specs.Found.{stretch_of}
use Rattle.cal_holidays.specs.Merging.{behind, listed_left}
use Rattle.cal_holidays.specs.declared.merged.Holiday.{Holiday}
use Rattle.cal_holidays.specs.declared.rest.Rest.{Rest}

-- the days and the rules that are still to be given
abbrev pub left_of : (ℕ → ℤ → Bool) → ℕ → Option Rest → List (ℤ × ℕ)
left_of names count rest = listed_left names count (option_map stretch_of rest)

-- a day and a rule that are given
abbrev pub pair_given : Holiday → ℤ × ℕ
pair_given h = (h.day, h.rule)

-- what is left after an answer: what is behind the item that was given, and nothing where none was
abbrev pub IsRest : ℕ → Option Rest → Option Holiday → Option Rest → Type 0
IsRest count before given rest =
    MatchOption given (rest ≡ None)
    (λ h. MatchOption before ⊤ (λ b. option_map stretch_of rest ≡ behind count (stretch_of b) h.day h.rule))
