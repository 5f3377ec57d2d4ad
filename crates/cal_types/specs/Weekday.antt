-- Days of the week (ISO 8601), counted from Sunday as day numbers are.
use Rattle.std.specs.Prelude.{ℕ, zero, suc, Bool, nat_eq, List, [], ◌∷◌}
use Rattle.cal_types.specs.declared.weekday.Weekday.{Weekday}
use Rattle.cal_types.specs.declared.weekday.Weekday.TheVariants.{Monday, Tuesday, Wednesday, Thursday, Friday, Saturday, Sunday}

-- the number of a weekday in ISO 8601: from 1 for Monday to 7 for Sunday
abbrev pub weekday_number : Weekday → ℕ
weekday_number Monday = 1
weekday_number Tuesday = 2
weekday_number Wednesday = 3
weekday_number Thursday = 4
weekday_number Friday = 5
weekday_number Saturday = 6
weekday_number Sunday = 7

-- how many days a weekday lies after Sunday
abbrev pub days_since_sunday : Weekday → ℕ
days_since_sunday Sunday = 0
days_since_sunday Monday = 1
days_since_sunday Tuesday = 2
days_since_sunday Wednesday = 3
days_since_sunday Thursday = 4
days_since_sunday Friday = 5
days_since_sunday Saturday = 6

-- the day after a weekday
abbrev pub next_weekday : Weekday → Weekday
next_weekday Monday = Tuesday
next_weekday Tuesday = Wednesday
next_weekday Wednesday = Thursday
next_weekday Thursday = Friday
next_weekday Friday = Saturday
next_weekday Saturday = Sunday
next_weekday Sunday = Monday

-- so many days in a row, from a weekday on
abbrev pub weekdays_from : Weekday → ℕ → List Weekday
weekdays_from day zero = []
weekdays_from day (suc count) = day ∷ weekdays_from (next_weekday day) count

-- the seven days of a week that begins with a weekday
abbrev pub week_from : Weekday → List Weekday
week_from first = weekdays_from first 7

-- whether two are the same day of the week
abbrev pub is_weekday : Weekday → Weekday → Bool
is_weekday a b = nat_eq (days_since_sunday a) (days_since_sunday b)
