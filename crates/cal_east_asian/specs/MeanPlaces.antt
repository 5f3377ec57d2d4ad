-- The leap month of a mean year and the lengths of its months, in milliseconds of a day and beside a solar term.
use Rattle.std.specs.Prelude.{ℕ, zero, suc, ◌+◌, ◌*◌, ◌/◌, ◌%◌, Bool, nat_lt, Option, Some, None}
use Rattle.cal_east_asian.specs.MeanYears.{least}

-- Month j ends on the day of its term or before. Months are counted from the one that a year begins with,
-- which is month 0; its term lies time milliseconds after the start of a day,
-- and its end lies lead milliseconds after its term
abbrev pub ends_by_term : ℕ → ℕ → ℕ → Bool
ends_by_term lead time j = nat_lt (lead + (time + 37746000 * j) % 86400000) (86400000 + 78303124 * j)

-- the place of a month that is counted from 0, or 0 where there is none
abbrev pub place_of : Option ℕ → ℕ
place_of None = 0
place_of (Some j) = j + 1

-- the place of the first of 13 months that ends on the day of its term or before
abbrev pub place_from : ℕ → ℕ → ℕ
place_from lead time = place_of (least (ends_by_term lead time) 0 13)

-- 1 where month i has 30 days; month 0 begins time milliseconds after the start of a day
abbrev pub month_bit : ℕ → ℕ → ℕ
month_bit time i = ((time + 45842876 * i) % 86400000 + 45842876) / 86400000

-- n months from month i, the first month's bit lowest
abbrev pub month_bits : ℕ → ℕ → ℕ → ℕ
month_bits time i zero = 0
month_bits time i (suc n) = month_bits time (i + 1) n * 2 + month_bit time i
