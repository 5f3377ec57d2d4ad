-- The twelve months of a Hijri year, told by the bits of those that have 30 days, and the day that a year may start on.
use Rattle.std.proofs.Common.{ℕ, ◌+◌, ◌-◌, ◌/◌, ◌%◌, List, [], ◌∷◌, ℤ, pos, ◌+ℤ◌, ◌-ℤ◌}
use Rattle.std.specs.Prelude.{slice_index_or, sum_by, take}
use Rattle.cal_days.specs.Day.{IsBetween}
use Rattle.cal_days.specs.Islamic.{islamic_mean_start}
use Rattle.cal_types.specs.CalendarList.{Entry, no_entry, days_of}
use Rattle.cal_types.specs.PlainMonths.{plain_entry}

-- a first day at most 5 days from the start of the mean year
abbrev pub IsNearMean : ℤ → ℤ → Type 0
IsNearMean y first = IsBetween (islamic_mean_start y -ℤ pos 5) (islamic_mean_start y +ℤ pos 5) first

-- a month whose bit is set has 30 days, and another 29; the first month's bit is the lowest
abbrev pub months_of : ℕ → List Entry
months_of long =
    plain_entry 1 (29 + long % 2) ∷ plain_entry 2 (29 + long / 2 % 2) ∷ plain_entry 3 (29 + long / 4 % 2)
    ∷ plain_entry 4 (29 + long / 8 % 2) ∷ plain_entry 5 (29 + long / 16 % 2) ∷ plain_entry 6 (29 + long / 32 % 2)
    ∷ plain_entry 7 (29 + long / 64 % 2) ∷ plain_entry 8 (29 + long / 128 % 2) ∷ plain_entry 9 (29 + long / 256 % 2)
    ∷ plain_entry 10 (29 + long / 512 % 2) ∷ plain_entry 11 (29 + long / 1024 % 2)
    ∷ plain_entry 12 (29 + long / 2048 % 2) ∷ []

-- the days of all months
abbrev pub days_of_months : ℕ → ℕ
days_of_months long = sum_by days_of (months_of long)

-- the days of the month in a place
abbrev pub month_days : ℕ → ℕ → ℕ
month_days long i = (slice_index_or (months_of long) (i - 1) no_entry).days

-- the days before it
abbrev pub prior_days : ℕ → ℕ → ℕ
prior_days long i = sum_by days_of (take (i - 1) (months_of long))
