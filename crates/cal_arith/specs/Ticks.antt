-- How many years a difference looks up.
use Rattle.std.specs.Prelude.{ℕ, ◌+◌}
use Rattle.cal_types.specs.declared.duration.DateDurationUnit.{DateDurationUnit}
use Rattle.cal_types.specs.declared.duration.DateDurationUnit.TheVariants.{Months}

-- at most 8; and where months are the largest unit, one more for each year between the dates
abbrev pub most_ticks : DateDurationUnit → ℕ → ℕ
most_ticks Months years = 8 + years
most_ticks _ years = 8
