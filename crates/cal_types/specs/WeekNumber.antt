-- The days of a month in sevens.
use Rattle.std.specs.Prelude.{ℕ, ◌+◌, ◌-◌, ◌/◌}

-- which of the days of its weekday in the month a day is, from 1; a day 0 is taken as 1
abbrev pub week_of_day : ℕ → ℕ
week_of_day day = 1 + (day - 1) / 7
