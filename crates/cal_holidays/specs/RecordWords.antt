-- The words of a record's fields: kinds of rules, names, months, days and weekdays.
use Rattle.std.specs.Prelude.{ℕ, ℤ, pos, neg_ℤ, Bool, true, false, ◌==◌, ◌&&◌, nat_le, int_le, List, [], ◌∷◌, length, drop, slice_index, codes, Option, Some, None, if◌then◌else◌}
use Rattle.std.specs.List.{find, list_all}
use Rattle.std.specs.Option.{option_and_then, option_map}
use Rattle.cal_kinds.specs.declared.any_calendar_kind.AnyCalendarKind.{AnyCalendarKind}
use Rattle.cal_types.specs.YearNames.{is_code}
use Rattle.cal_types.specs.Month.{MonthParts, month_read}
use Rattle.cal_types.specs.Weekday.{week_from}
use Rattle.cal_types.specs.declared.weekday.Weekday.{Weekday}
use Rattle.cal_types.specs.declared.weekday.Weekday.TheVariants.{Monday, Tuesday, Wednesday, Thursday, Friday, Saturday, Sunday}
use Rattle.cal_types.specs.declared.leaping.Leaping.{Leaping}
use Rattle.cal_types.specs.declared.leaping.Leaping.TheVariants.{Exact, Constrain}
use Rattle.cal_holidays.specs.KindMonths.{knows_month}
use Rattle.word_values.specs.Numbers.{int_of, number_of}
use Rattle.cal_holidays.specs.declared.record_words.RuleKind.{RuleKind}
use Rattle.cal_holidays.specs.declared.record_words.RuleKind.TheVariants as way
use Rattle.cal_holidays.specs.declared.holiday_rule.SpanWeek.{SpanWeek}
use Rattle.cal_holidays.specs.declared.holiday_rule.SpanWeek.TheVariants.{From, UpTo}

-- what stands beside the first of the words that is the text
abbrev pub among : {T : Type 0} → List (List ℕ × T) → List ℕ → Option T
among words text = option_map (λ word. word.1) (find (λ word. is_code text word.0) words)

abbrev pub rule_kind : List ℕ → Option RuleKind
rule_kind = among (
    (codes "fixed", way.Fixed) ∷ (codes "easter", way.Easter) ∷ (codes "weekday", way.Nth)
    ∷ (codes "span", way.Span) ∷ (codes "rule", way.Recurring) ∷ [])

abbrev pub leaping_named : List ℕ → Option Leaping
leaping_named = among ((codes "exact", Exact) ∷ (codes "constrain", Constrain) ∷ [])

-- whether the calendar of Easter is the Julian one
abbrev pub is_julian : List ℕ → Option Bool
is_julian = among ((codes "gregorian", false) ∷ (codes "julian", true) ∷ [])

-- the word for a weekday
abbrev pub weekday_word : Weekday → List ℕ
weekday_word Monday = codes "monday"
weekday_word Tuesday = codes "tuesday"
weekday_word Wednesday = codes "wednesday"
weekday_word Thursday = codes "thursday"
weekday_word Friday = codes "friday"
weekday_word Saturday = codes "saturday"
weekday_word Sunday = codes "sunday"

abbrev pub weekday_named : List ℕ → Option Weekday
weekday_named text = find (λ day. is_code text (weekday_word day)) (week_from Monday)

-- the week from a day on, or with a minus (45) the week up to it, and a weekday
abbrev pub week_named : List ℕ → Option (SpanWeek × Weekday)
week_named text =
    if slice_index text 0 == 45 then option_map (λ day. (UpTo, day)) (weekday_named (drop 1 text))
    else option_map (λ day. (From, day)) (weekday_named text)

-- which weekday of a month
abbrev pub nth_named : List ℕ → Option ℤ
nth_named = among (
    (codes "1", pos 1) ∷ (codes "2", pos 2) ∷ (codes "3", pos 3) ∷ (codes "4", pos 4) ∷ (codes "5", pos 5)
    ∷ (codes "-1", neg_ℤ (pos 1)) ∷ [])

-- a value that passes a test
abbrev pub where_passes : {T : Type 0} → (T → Bool) → T → Option T
where_passes test x = if test x then Some x else None

-- one to 64 printable characters of ASCII
abbrev pub is_name : List ℕ → Bool
is_name text = (nat_le 1 (length text) && nat_le (length text) 64) && list_all (λ b. nat_le 32 b && nat_le b 126) text

abbrev pub name_read : List ℕ → Option (List ℕ)
name_read = where_passes is_name

-- a month code of the kind
abbrev pub month_of : AnyCalendarKind → List ℕ → Option MonthParts
month_of calendar text = option_and_then (where_passes (knows_month calendar)) (month_read text)

-- a day of a month, in one or two digits
abbrev pub day_read : List ℕ → Option ℕ
day_read text = option_and_then (where_passes (λ day. nat_le 1 day && nat_le day 31)) (number_of 2 text)

-- at most 400 days before or after
abbrev pub offset_read : List ℕ → Option ℤ
offset_read text =
    option_and_then (where_passes (λ days. int_le (neg_ℤ (pos 400)) days && int_le days (pos 400))) (int_of text)

-- nothing at all
abbrev pub nothing : List ℕ → Option (List ℕ)
nothing = where_passes (λ text. length text == 0)
