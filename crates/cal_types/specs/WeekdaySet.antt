-- Sets of days of the week, and their days in the order of a week.
-- Source: the first day of a week and the days of a weekend are those of CLDR's week data (UTS 35).
use Rattle.std.specs.Prelude.{false, Bool, List, get_or}
use Rattle.std.specs.List.{filter, list_any}
use Rattle.cal_types.specs.Weekday.{days_since_sunday, is_weekday, week_from, weekdays_from}
use Rattle.cal_types.specs.declared.weekday.Weekday.{Weekday}
use Rattle.cal_types.specs.declared.weekday_set.WeekdaySet.{WeekdaySet}
use Rattle.cal_types.specs.declared.week_information.WeekdaySetIterator.{WeekdaySetIterator}

-- whether a weekday is one of some days
abbrev pub is_one_of : List Weekday → Weekday → Bool
is_one_of days day = list_any (is_weekday day) days

-- whether a set has a weekday
abbrev pub in_set : WeekdaySet → Weekday → Bool
in_set set day = get_or set.held (days_since_sunday day) false

-- the days of a set in the order of a week that begins with a weekday
abbrev pub days_of_week : WeekdaySet → Weekday → List Weekday
days_of_week set first = filter (in_set set) (week_from first)

-- the days that an iterator still has to give
abbrev pub weekdays_left : WeekdaySetIterator → List Weekday
weekdays_left i = filter (in_set i.set) (weekdays_from i.next i.left)
