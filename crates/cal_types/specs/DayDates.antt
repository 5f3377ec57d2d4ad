-- The date of a day number in any list: from a year that starts no later than the day, the whole years that have passed
-- are counted, then the months.
use Rattle.std.specs.Prelude.{ℕ, zero, suc, ◌+◌, ◌-◌, nat_lt, List, [], ◌∷◌, ℤ, pos, ◌+ℤ◌, ◌-ℤ◌, if◌then◌else◌}
use Rattle.cal_days.specs.Sums.{years_up}
use Rattle.cal_types.specs.CalendarList.{CalendarList, Entry, Date, date, start_of_year, year_length}

-- the place of a month and a day of it, for the day that comes so many days after the first of some months, of which
-- the first stands in place i
unfoldable pub place_after : List Entry → ℕ → ℕ → ℕ × ℕ
place_after [] i days = (i, days + 1)
place_after (e ∷ es) i days =
    if nat_lt days e.days then (i, days + 1) else place_after es (i + 1) (days - e.days)

-- the date that comes so many days after the first day of its year
abbrev pub date_in : CalendarList → ℤ → ℕ → Date
date_in c y days = let there = place_after (c.entries y) 1 days in date y there.0 there.1

-- the date that comes so many days after the first day of a year, where at most so many years are passed
unfoldable pub date_after : CalendarList → ℕ → ℤ → ℕ → Date
date_after c zero y days = date_in c y days
date_after c (suc most) y days =
    if nat_lt days (year_length c y) then date_in c y days else date_after c most (y +ℤ pos 1) (days - year_length c y)

-- a year that starts no later than a day: as many years before the anchor as the day lies before the anchor's
abbrev pub year_before : CalendarList → ℤ → ℤ
year_before c n = c.anchor_year -ℤ pos (years_up (c.anchor_day -ℤ n))

-- the date of a day number
unfoldable pub date_on : CalendarList → ℤ → Date
date_on c n =
    let y = year_before c n in
    let days = years_up (n -ℤ start_of_year c y) in
    date_after c days y days
