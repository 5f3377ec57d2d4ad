-- How far a Hebrew year is put off, told by its own mean new moon, or molad, alone.
-- Source: the four postponements of the new year, as Reingold and Dershowitz, Calendrical Calculations, chapter 8,
-- name them.
use Rattle.std.specs.Prelude.{ℕ, Bool, ◌&&◌, ◌||◌, nat_eq, nat_le, nat_lt, if◌then◌else◌}

-- the weekdays that no year starts on: Sunday, which is 0, Wednesday and Friday
abbrev pub is_shunned : ℕ → Bool
is_shunned w = nat_eq w 0 || (nat_eq w 3 || nat_eq w 5)

-- of what stands below: w is the weekday of the moon,
-- f the parts of the day that have passed since noon of the day before, of which a day has 25920,
-- and r is what division by 19 leaves of 235 y - 234: from 12 on the year is a leap year,
-- and below 7 the year before it is one

-- a common year whose moon is that late on a Tuesday would have 356 days
abbrev pub has_356_days : ℕ → ℕ → ℕ → Bool
has_356_days w f r = nat_eq w 2 && (nat_le 16404 f && nat_lt r 12)

-- a leap year before a moon that is that late on a Monday would have 382 days
abbrev pub follows_382_days : ℕ → ℕ → ℕ → Bool
follows_382_days w f r = nat_eq w 1 && (nat_le 23269 f && nat_lt r 7)

-- the days from the new moon to the new year
abbrev pub postponement : ℕ → ℕ → ℕ → ℕ
postponement w f r =
    if is_shunned w then 1 else (if has_356_days w f r then 2 else (if follows_382_days w f r then 1 else 0))
