-- The days of a period as bits.
use Rattle.std.specs.Prelude.{ℕ, Bool, false, List, ℤ, pos, negsuc, ◌-ℤ◌}
use Rattle.cal_rule.specs.Sets.{has_number}
use Rattle.recurrence_sets.specs.declared.period_days.PeriodDays.{PeriodDays}

-- whether words have a number, which may be negative
abbrev pub has_offset : List ℕ → ℤ → Bool
has_offset words (pos i) = has_number words i
has_offset words (negsuc i) = false

-- whether a day is one of some days: bit i is the day i days after the first
abbrev pub has_day : PeriodDays → ℤ → Bool
has_day days n = has_offset days.words (n -ℤ days.first)
