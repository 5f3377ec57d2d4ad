-- In which years a rule is kept, and by how many days the day that it falls on moves.
use Rattle.std.specs.Prelude.{◌≡◌, ℕ, ◌*◌, ◌%◌, ◌<◌, ◌≤◌, Bool, true, ◌&&◌, nat_eq, nat_le, int_le, List, get_or, Option, Some, None, ℤ, pos, neg_ℤ, ◌+ℤ◌, ◌-ℤ◌, ◌≤ℤ◌}
use Rattle.std.specs.List.{list_all}
use Rattle.std.specs.Option.{unwrap_or}
use Rattle.cal_days.specs.Day.{is_between}
use Rattle.cal_days.specs.Sums.{years_up}
use Rattle.cal_holidays.specs.declared.rule_years.RuleYears.{RuleYears}

-- a year is the first one or comes some number of steps after it, and it isn't past the last one
pub record IsKept (years : RuleYears) (y : ℤ) : Type 0 where
  pub since : (s : ℤ) → years.since ≡ Some s → (k : ℕ) × (y ≡ s +ℤ pos (k * years.every))
  pub until : (u : ℤ) → years.until ≡ Some u → y ≤ℤ u

-- the same as a test
abbrev pub is_since : Option ℤ → ℕ → ℤ → Bool
is_since None every y = true
is_since (Some s) every y = int_le s y && nat_eq (years_up (y -ℤ s) % every) 0

abbrev pub is_until : Option ℤ → ℤ → Bool
is_until None y = true
is_until (Some u) y = int_le y u

abbrev pub is_kept : RuleYears → ℤ → Bool
is_kept years y = is_since years.since years.every y && is_until years.until y

-- by how many days a day moves that falls on a weekday, which is so many days after Sunday; 0 if it stays
abbrev pub move_on : List (Option ℤ) → ℕ → ℤ
move_on moves d = unwrap_or (get_or moves d None) (pos 0)

-- a year of at most six digits, if there is one
abbrev pub is_year : Option ℤ → Bool
is_year None = true
is_year (Some y) = is_between (neg_ℤ (pos 999999)) (pos 999999) y

-- steps of 1 to 400 years; without a first year, each year
abbrev pub is_every : Option ℤ → ℕ → Bool
is_every None every = nat_eq every 1
is_every (Some s) every = nat_le 1 every && nat_le every 400

-- whether the numbers of years are in their ranges
abbrev pub are_proper_years : RuleYears → Bool
are_proper_years years = (is_year years.since && is_year years.until) && is_every years.since years.every

-- at most six days before or after
abbrev pub is_move : Option ℤ → Bool
is_move None = true
is_move (Some days) = is_between (neg_ℤ (pos 6)) (pos 6) days

-- whether the numbers of days are in their range
abbrev pub are_proper_moves : List (Option ℤ) → Bool
are_proper_moves moves = list_all is_move moves
