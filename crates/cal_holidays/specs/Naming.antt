-- Which days a rule names: tests of a day.
-- Source: the days of Easter are those of Reingold and Dershowitz, Calendrical Calculations, chapter 9.
use Rattle.std.specs.Prelude.{ℕ, zero, suc, negsuc, ◌+◌, ◌-◌, ◌/◌, Bool, true, false, ◌&&◌, nat_eq, nat_lt, int_lt, int_le, List, [], ◌∷◌, Option, ℤ, pos, ◌+ℤ◌, ◌-ℤ◌}
use Rattle.std.specs.List.{list_any}
use Rattle.cal_base.specs.OffsetList.{offset_list}
use Rattle.cal_days.specs.Day.{is_valid_day}
use Rattle.cal_days.specs.Division.{floor_mod}
use Rattle.cal_days.specs.Easter.{gregorian_april_19, gregorian_epact, julian_april_19, julian_epact}
use Rattle.cal_days.specs.Gregorian.{gregorian_start}
use Rattle.cal_days.specs.Julian.{julian_start}
use Rattle.cal_julian.specs.JulianList.{julian_list}
use Rattle.cal_types.specs.Anniversary.{is_anniversary}
use Rattle.cal_types.specs.CalendarList.{CalendarList, IsLawful, month_at, month_length}
use Rattle.cal_tables.specs.Kinds.{TableContents, kind_system}
use Rattle.cal_types.specs.Month.{MonthParts, month_rank}
use Rattle.cal_types.specs.Weekday.{days_since_sunday}
use Rattle.cal_types.specs.declared.leaping.Leaping.TheVariants.{Exact}
use Rattle.cal_types.specs.declared.weekday.Weekday.{Weekday}
use Rattle.cal_types.specs.DayDates.{date_on}
use Rattle.cal_types.proofs.DayDateLemmas.{date_on-on}
use Rattle.cal_tables.proofs.KindLemmas.{kind_lawful}
use Rattle.rule_lists.proofs.TextDeciding.{by_text}
use Rattle.cal_holidays.specs.Observing.{is_kept, move_on}
use Rattle.cal_holidays.specs.Rules.{DayRule, Easter, Fixed, Kept, Nth, Observed, Recurring, Repeated, Rule, Span, Yearly, rule_calendar}
use Rattle.cal_holidays.specs.declared.rule_years.RuleYears.{RuleYears}
use Rattle.cal_holidays.specs.declared.holiday_rule.SpanWeek.{SpanWeek}
use Rattle.cal_holidays.specs.declared.holiday_rule.SpanWeek.TheVariants.{From, UpTo}

-- whether two months are the same
abbrev pub is_month : MonthParts → MonthParts → Bool
is_month a b = nat_eq (month_rank a) (month_rank b)

-- whether a day of a month is one of the first seven days, of the next seven and so on, or one of the last seven (-1)
abbrev pub is_nth_day : ℤ → ℕ → ℕ → Bool
is_nth_day (pos nth) length day = nat_eq nth (1 + (day - 1) / 7)
is_nth_day (negsuc zero) length day = nat_lt length (day + 7)
is_nth_day (negsuc (suc _)) length day = false

-- whether a day has a weekday; day number 0 is a Sunday
abbrev pub has_weekday : Weekday → ℤ → Bool
has_weekday weekday n = nat_eq (floor_mod n 7) (days_since_sunday weekday)

-- whether a day is the first Sunday behind another
abbrev pub is_sunday_behind : ℤ → ℤ → Bool
is_sunday_behind day n = nat_eq (floor_mod n 7) 0 && (int_lt day n && int_le n (day +ℤ pos 7))

-- the full moon before Easter of a year
abbrev pub easter_moon : Bool → ℤ → ℤ
easter_moon false y = gregorian_april_19 y -ℤ pos (gregorian_epact y)
easter_moon true y = julian_april_19 y -ℤ pos (julian_epact y)

-- the years of Easter, and the first day of one
abbrev pub easter_list : Bool → CalendarList
easter_list false = offset_list (pos 0)
easter_list true = julian_list

abbrev pub year_start : Bool → ℤ → ℤ
year_start false y = gregorian_start y
year_start true y = julian_start y

-- the year that contains a day
abbrev pub year_on : CalendarList → ℤ → ℤ
year_on c n = (date_on c n).year

-- whether a day is that of Easter in the Gregorian or the Julian year that contains it
abbrev pub is_easter : Bool → ℤ → Bool
is_easter julian n = is_sunday_behind (easter_moon julian (year_on (easter_list julian) n)) n

-- whether a day is the weekday of a number in a month
abbrev pub is_nth : CalendarList → MonthParts → ℤ → Weekday → ℤ → Bool
is_nth c m nth weekday n =
    let t = date_on c n in
    has_weekday weekday n
    && (is_month (month_at c t.year t.month) m && is_nth_day nth (month_length c t.year t.month) t.day)

-- the numbers of the days of a week
abbrev pub seven : List ℕ
seven = 0 ∷ 1 ∷ 2 ∷ 3 ∷ 4 ∷ 5 ∷ 6 ∷ []

-- the day whose week from it on, or up to it, has a day in a place from 0 to 6
abbrev pub week_end : SpanWeek → ℤ → ℕ → ℤ
week_end From n k = n -ℤ pos k
week_end UpTo n k = n +ℤ pos k

-- whether a day is valid, a month and a day fall on it, and its year passes a test
abbrev pub is_date_in : CalendarList → MonthParts → ℕ → (ℤ → Bool) → ℤ → Bool
is_date_in c m d kept n = is_valid_day n && (is_anniversary c Exact m d n && kept (year_on c n))

-- whether a day is the rule's own one in a year of its calendar that passes a test
abbrev pub is_own : CalendarList → Rule → (ℤ → Bool) → ℤ → Bool
is_own c (Fixed kind m d leaping) kept n = is_anniversary c leaping m d n && kept (year_on c n)
is_own c (Easter julian offset) kept n =
    is_easter julian (n -ℤ offset) && kept (year_on (easter_list julian) (n -ℤ offset))
is_own c (Nth kind m nth weekday) kept n = is_nth c m nth weekday n && kept (year_on c n)
is_own c (Span kind m d week weekday) kept n =
    has_weekday weekday n && list_any (λ k. is_date_in c m d kept (week_end week n k)) seven

-- whether a day lies so many days after a Sunday and is the own one of a rule in a year in which it is kept
abbrev pub is_own_on : CalendarList → Observed → ℤ → ℕ → Bool
is_own_on c kept n d =
    nat_eq (floor_mod n 7) d && (is_valid_day n && is_own c kept.rule (is_kept kept.years) n)

-- whether such a day moves to a day
abbrev pub names_in : CalendarList → Observed → ℤ → Bool
names_in c kept n = list_any (λ d. is_own_on c kept (n -ℤ move_on kept.moves d) d) seven

-- what is decided, as a test
abbrev pub is_yes : {A : Type 0} → Dec A → Bool
is_yes (yes _) = true
is_yes (no _) = false

-- whether the text of a recurrence rule has an occurrence on a day, from the day of its start on
abbrev pub recurs_on : (c : CalendarList) → IsLawful c → Repeated → ℤ → Bool
recurs_on c law r n =
    is_yes (by_text c law r.calendar r.text (date_on c r.start) (date_on-on c law r.start).date n)

-- whether a day lies so many days after a Sunday and is an occurrence in a year in which the rule is kept
abbrev pub repeats_own : (c : CalendarList) → IsLawful c → Repeated → RuleYears → ℤ → ℕ → Bool
repeats_own c law r years n d =
    nat_eq (floor_mod n 7) d && (recurs_on c law r n && is_kept years (year_on c n))

-- whether such a day moves to a day
abbrev pub repeats_on : (c : CalendarList) → IsLawful c → Repeated → RuleYears → List (Option ℤ) → ℤ → Bool
repeats_on c law r years moves n =
    list_any (λ d. repeats_own c law r years (n -ℤ move_on moves d) d) seven

-- the same in the rule's calendar
abbrev pub names_by : TableContents → DayRule → RuleYears → List (Option ℤ) → ℤ → Bool
names_by t (Yearly rule) years moves n =
    names_in (kind_system t (rule_calendar rule)).list (record { rule = rule; years = years; moves = moves }) n
names_by t (Recurring r) years moves n =
    repeats_on (kind_system t r.calendar).list (kind_lawful t r.calendar) r years moves n

abbrev pub names_day : TableContents → Kept → ℤ → Bool
names_day t kept n = names_by t kept.rule kept.years kept.moves n
