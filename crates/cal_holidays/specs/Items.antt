-- The items of a list of holidays.
use Rattle.std.specs.Prelude.{ℕ, ℤ}
use Rattle.cal_holidays.specs.declared.merged.Holiday.{Holiday}

-- the item of a day and a rule
abbrev pub holiday_of : ℤ × ℕ → Holiday
holiday_of (day, rule) = record { day = day; rule = rule }
