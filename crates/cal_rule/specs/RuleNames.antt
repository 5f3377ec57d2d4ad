-- The names of a rule's parts, and the words of their values.
-- Source: RFC 5545, 3.3.10; RFC 7529, 4.
use Rattle.std.specs.Prelude.{ℕ, ◌==◌, Bool, ◌||◌, List, [], ◌∷◌, Option, codes}
use Rattle.std.specs.List.{find}
use Rattle.std.specs.Str.{str_eq_ignore_ascii_case}
use Rattle.cal_types.specs.declared.weekday.Weekday.{Weekday}
use Rattle.cal_types.specs.declared.weekday.Weekday.TheVariants.{Monday, Tuesday, Wednesday, Thursday, Friday, Saturday, Sunday}
use Rattle.cal_rule.specs.declared.frequency.Frequency.{Frequency}
use Rattle.cal_rule.specs.declared.frequency.Frequency.TheVariants.{Yearly, Monthly, Weekly, Daily}
use Rattle.cal_rule.specs.declared.rule_part.RulePart.{RulePart}
use Rattle.cal_rule.specs.declared.rule_part.RulePart.TheVariants as part
use Rattle.cal_rule.specs.declared.skip.Skip.{Skip}
use Rattle.cal_rule.specs.declared.skip.Skip.TheVariants.{Omit, Backward, Forward}

-- whether a text is a word; ASCII letters of either case are the same
abbrev pub is_word : List ℕ → List ℕ → Bool
is_word text word = str_eq_ignore_ascii_case text word

abbrev pub part_name : RulePart → List ℕ
part_name part.Freq = codes "FREQ"
part_name part.Until = codes "UNTIL"
part_name part.Count = codes "COUNT"
part_name part.Interval = codes "INTERVAL"
part_name part.BySecond = codes "BYSECOND"
part_name part.ByMinute = codes "BYMINUTE"
part_name part.ByHour = codes "BYHOUR"
part_name part.ByDay = codes "BYDAY"
part_name part.ByMonthDay = codes "BYMONTHDAY"
part_name part.ByYearDay = codes "BYYEARDAY"
part_name part.ByWeekNo = codes "BYWEEKNO"
part_name part.ByMonth = codes "BYMONTH"
part_name part.BySetPos = codes "BYSETPOS"
part_name part.Wkst = codes "WKST"
part_name part.Rscale = codes "RSCALE"
part_name part.Skip = codes "SKIP"

abbrev pub all_parts : List RulePart
all_parts = part.Freq ∷ part.Until ∷ part.Count ∷ part.Interval ∷ part.BySecond ∷ part.ByMinute ∷ part.ByHour
    ∷ part.ByDay ∷ part.ByMonthDay ∷ part.ByYearDay ∷ part.ByWeekNo ∷ part.ByMonth ∷ part.BySetPos ∷ part.Wkst
    ∷ part.Rscale ∷ part.Skip ∷ []

-- the part that a name names
abbrev pub part_named : List ℕ → Option RulePart
part_named text = find (λ p. is_word text (part_name p)) all_parts

-- the place of a part among all
abbrev pub part_place : RulePart → ℕ
part_place part.Freq = 0
part_place part.Until = 1
part_place part.Count = 2
part_place part.Interval = 3
part_place part.BySecond = 4
part_place part.ByMinute = 5
part_place part.ByHour = 6
part_place part.ByDay = 7
part_place part.ByMonthDay = 8
part_place part.ByYearDay = 9
part_place part.ByWeekNo = 10
part_place part.ByMonth = 11
part_place part.BySetPos = 12
part_place part.Wkst = 13
part_place part.Rscale = 14
part_place part.Skip = 15

-- whether two parts are the same
abbrev pub is_part : RulePart → RulePart → Bool
is_part p q = part_place p == part_place q

abbrev pub frequency_name : Frequency → List ℕ
frequency_name Yearly = codes "YEARLY"
frequency_name Monthly = codes "MONTHLY"
frequency_name Weekly = codes "WEEKLY"
frequency_name Daily = codes "DAILY"

abbrev pub frequency_named : List ℕ → Option Frequency
frequency_named text = find (λ f. is_word text (frequency_name f)) (Yearly ∷ Monthly ∷ Weekly ∷ Daily ∷ [])

-- a frequency of RFC 5545 whose periods are within a day
abbrev pub is_time_frequency : List ℕ → Bool
is_time_frequency text =
    is_word text (codes "HOURLY") || is_word text (codes "MINUTELY") || is_word text (codes "SECONDLY")

abbrev pub weekday_name : Weekday → List ℕ
weekday_name Sunday = codes "SU"
weekday_name Monday = codes "MO"
weekday_name Tuesday = codes "TU"
weekday_name Wednesday = codes "WE"
weekday_name Thursday = codes "TH"
weekday_name Friday = codes "FR"
weekday_name Saturday = codes "SA"

abbrev pub weekday_named : List ℕ → Option Weekday
weekday_named text =
    find (λ day. is_word text (weekday_name day))
    (Sunday ∷ Monday ∷ Tuesday ∷ Wednesday ∷ Thursday ∷ Friday ∷ Saturday ∷ [])

abbrev pub skip_name : Skip → List ℕ
skip_name Omit = codes "OMIT"
skip_name Backward = codes "BACKWARD"
skip_name Forward = codes "FORWARD"

abbrev pub skip_named : List ℕ → Option Skip
skip_named text = find (λ way. is_word text (skip_name way)) (Omit ∷ Backward ∷ Forward ∷ [])
