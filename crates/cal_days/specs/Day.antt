-- Day numbers, the ranges that calls speak of, and tests of them.
-- Day 1 is 0001-01-01 in the proleptic Gregorian calendar.
use Rattle.std.specs.Prelude.{ℕ, Bool, ◌&&◌, nat_le, int_le, ℤ, pos, neg_ℤ, ◌≤ℤ◌}

-- from low to high, both counted
abbrev pub IsBetween : ℤ → ℤ → ℤ → Type 0
IsBetween low high z = (low ≤ℤ z) × (z ≤ℤ high)

-- the test of it
abbrev pub is_between : ℤ → ℤ → ℤ → Bool
is_between low high z = int_le low z && int_le z high

-- the day numbers that a rata die holds: from -2^55 to 2^55 - 1
abbrev pub IsHeld : ℤ → Type 0
IsHeld n = IsBetween (neg_ℤ (pos 36028797018963968)) (pos 36028797018963967) n

-- the valid days: from -999999-01-01 to 999999-12-31 in the proleptic Gregorian calendar,
-- which are all of its days whose year has at most six digits
abbrev pub IsValidDay : ℤ → Type 0
IsValidDay n = IsBetween (neg_ℤ (pos 365242499)) (pos 365242134) n

-- the test of a valid day
abbrev pub is_valid_day : ℤ → Bool
is_valid_day n = is_between (neg_ℤ (pos 365242499)) (pos 365242134) n

-- the years that the fields of a date may name: 1000000 and a margin,
-- so that in every calendar they go past the years of valid days, also where years have 354 days
abbrev pub IsFieldYear : ℤ → Type 0
IsFieldYear y = IsBetween (neg_ℤ (pos 1040000)) (pos 1040000) y

-- the test of a field year
abbrev pub is_field_year : ℤ → Bool
is_field_year y = is_between (neg_ℤ (pos 1040000)) (pos 1040000) y

-- the years that constructors take, which are those of at most four digits, and the test of one
abbrev pub IsConstructorYear : ℤ → Type 0
IsConstructorYear y = IsBetween (neg_ℤ (pos 9999)) (pos 9999) y

abbrev pub is_constructor_year : ℤ → Bool
is_constructor_year y = is_between (neg_ℤ (pos 9999)) (pos 9999) y

-- the extended years that such a year of an era may read as: an era begins within 10000 years of year 0
abbrev pub IsNearEra : ℤ → Type 0
IsNearEra y = IsBetween (neg_ℤ (pos 20000)) (pos 20000) y

-- the years whose days are valid in every calendar, and the test of one:
-- so much less than 1000000 that it makes no difference where a calendar counts its years from, nor how long they are
abbrev pub IsCoveredYear : ℤ → Type 0
IsCoveredYear y = IsBetween (neg_ℤ (pos 980000)) (pos 980000) y

abbrev pub is_covered_year : ℤ → Bool
is_covered_year y = is_between (neg_ℤ (pos 980000)) (pos 980000) y

-- the years that year rules are used for, and the test of one:
-- a field year with the years between any two valid days added to it, and more
abbrev pub IsRuleYear : ℤ → Type 0
IsRuleYear y = IsBetween (neg_ℤ (pos 8000000)) (pos 8000000) y

abbrev pub is_rule_year : ℤ → Bool
is_rule_year y = is_between (neg_ℤ (pos 8000000)) (pos 8000000) y

-- the years that are added: as many as lie between two field years, 2 * 1040000
abbrev pub are_addable_years : ℕ → Bool
are_addable_years count = nat_le count 2080000

-- the months that are added: as many as so many years of 13 months have, 13 * 2080000
abbrev pub are_addable_months : ℕ → Bool
are_addable_months count = nat_le count 27040000

-- the days that are added, with seven for a week: as many as so many months of 31 days have, 31 * 27040000
abbrev pub are_addable_days : ℕ → Bool
are_addable_days count = nat_le count 838240000

-- the rule years, and the years at most 9999 beside them, for calendars that count their years from another calendar's
abbrev pub IsShiftedYear : ℤ → Type 0
IsShiftedYear y = IsBetween (neg_ℤ (pos 8009999)) (pos 8009999) y

-- a number that is far from the ends of a 64-bit integer
abbrev pub IsNear : ℤ → Type 0
IsNear z = IsBetween (neg_ℤ (pos 1000000000000)) (pos 1000000000000) z
