-- The first day of a window to which own days of some years move.
use Rattle.std.specs.Prelude.{◌≡◌, ◌+◌, ◌*◌, ◌<◌, ◌≤◌, ℕ, Bool, false, int_le, if◌then◌else◌, MatchOption, ⊤, List, Option, Some, None, ℤ, pos, neg_ℤ, ◌+ℤ◌, ◌≤ℤ◌}
use Rattle.cal_days.specs.Day.{IsBetween, IsValidDay, is_between}
use Rattle.cal_days.specs.Division.{floor_mod}
use Rattle.cal_holidays.specs.NamedDays.{MovesTo}
use Rattle.cal_holidays.specs.Observing.{IsKept, move_on}
use Rattle.cal_holidays.specs.declared.rule_years.RuleYears.{RuleYears}
use Rattle.cal_holidays.specs.declared.rule_years.YearSteps.{YearSteps}

-- the first day from one day to another that a property holds of, if it holds of any
abbrev pub IsLeast : (ℤ → Type 0) → ℤ → ℤ → Option ℤ → Type 0
IsLeast Is first last day =
    MatchOption day ((n : ℤ) → IsBetween first last n → Is n → ⊥)
    (λ b. IsBetween first last b × Is b × ((n : ℤ) → IsBetween first last n → Is n → b ≤ℤ n))

-- where there is a day, it is valid
abbrev pub IsSomeValid : Option ℤ → Type 0
IsSomeValid day = MatchOption day ⊤ (λ n. IsValidDay n)

-- a day, if it lies between two others
abbrev pub if_between : ℤ → ℤ → ℤ → Option ℤ
if_between first last n = if is_between first last n then Some n else None

-- the day to which an own day moves, if it lies between two days
abbrev pub moved_between : List (Option ℤ) → ℤ → ℤ → Option ℤ → Option ℤ
moved_between moves first last None = None
moved_between moves first last (Some own) = if_between first last (own +ℤ move_on moves (floor_mod own 7))

-- the earlier of two days, if they are there
abbrev pub earlier_day : Option ℤ → Option ℤ → Option ℤ
earlier_day None b = b
earlier_day (Some n) None = Some n
earlier_day (Some n) (Some m) = if int_le n m then Some n else Some m

-- whether a day comes so many days or more before an own day
abbrev pub is_settled : Option ℤ → Option ℤ → ℤ → Bool
is_settled None own reach = false
is_settled (Some n) None reach = false
is_settled (Some n) (Some own) reach = int_le (n +ℤ reach) own

-- a year is the first one from another on that comes some number of steps after a first year
pub record IsFirstStep (since : ℤ) (every : ℕ) (low y : ℤ) : Type 0 where
  pub from : low ≤ℤ y
  pub step : (k : ℕ) × (y ≡ since +ℤ pos (k * every))
  pub all : (k : ℕ) → low ≤ℤ (since +ℤ pos (k * every)) → (i : ℕ) × (since +ℤ pos (k * every) ≡ y +ℤ pos (i * every))

-- the same if there may be no first year: then each year is one, and steps are single years
abbrev pub IsFirstFrom : Option ℤ → ℕ → ℤ → ℤ → Type 0
IsFirstFrom since every low y = MatchOption since (y ≡ low) (λ s. IsFirstStep s every low y)

-- a year is the earlier of a last one, if there is any, and another
abbrev pub IsLastYear : Option ℤ → ℤ → ℤ → Type 0
IsLastYear until high y =
    MatchOption until (y ≡ high) (λ u. (y ≤ℤ u) × (y ≤ℤ high) × ((z : ℤ) → z ≤ℤ u → z ≤ℤ high → z ≤ℤ y))

-- a year that comes so many steps after the first one
abbrev pub step_year : YearSteps → ℕ → ℤ
step_year steps i = steps.first +ℤ pos (i * steps.every)

-- years in steps are those from a first to a last one in which a rule is kept
pub record AreSteps (years : RuleYears) (low high : ℤ) (steps : YearSteps) : Type 0 where
  pub all : (y : ℤ) → IsKept years y → IsBetween low high y
      → (i : ℕ) × (y ≡ step_year steps i) × (y ≤ℤ steps.last)
  pub kept : (i : ℕ) → step_year steps i ≤ℤ steps.last → IsKept years (step_year steps i)
  pub some : (1 ≤ steps.every) × (steps.every ≤ 400)
  pub first : low ≤ℤ steps.first
  pub last : steps.last ≤ℤ high

-- an own day of one of such years moves to a day
abbrev pub MovesIn : (ℤ → ℤ → Type 0) → List (Option ℤ) → YearSteps → ℤ → Type 0
MovesIn Own moves steps n = (i : ℕ) × (step_year steps i ≤ℤ steps.last) × MovesTo Own moves (step_year steps i) n
