-- The tabular years whose leap years are the years 2, 5, 7, 10, 13, 15, 18, 21, 24, 26 and 29 of each thirty.
use Rattle.std.specs.Prelude.{Bool, nat_lt, ℤ, pos, ◌+ℤ◌, ◌-ℤ◌, ◌*ℤ◌}
use Rattle.cal_days.specs.Division.{floor_div, floor_mod}

-- the leap years
abbrev pub type_i_leap : ℤ → Bool
type_i_leap y = nat_lt (floor_mod (pos 11 *ℤ y +ℤ pos 15) 30) 11

-- the day number of a year's first day, from the first day of year 1
unfoldable pub type_i_start : ℤ → ℤ → ℤ
type_i_start epoch y = epoch +ℤ pos 354 *ℤ (y -ℤ pos 1) +ℤ floor_div (pos 11 *ℤ y +ℤ pos 4) 30
