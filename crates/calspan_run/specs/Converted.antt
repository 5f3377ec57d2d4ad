-- The answer to a line of `convert`.
use Rattle.std.specs.Prelude.{ℕ, ℤ, ◌==◌, Bool, true, false, nat_lt, List, [], ◌∷◌, ◌++◌, length, take, drop, position, Some, None, Result, Ok, Err, codes, if◌then◌else◌}
use Rattle.std.specs.Fmt.{decimal, signed_decimal}
use Rattle.std.specs.Option.{unwrap_or}
use Rattle.cal_days.specs.Day.{is_valid_day}
use Rattle.cal_errors.specs.declared.errors.DateFromFieldsError.{DateFromFieldsError}
use Rattle.cal_errors.specs.declared.errors.DateFromFieldsError.TheVariants.{Overflow}
use Rattle.cal_types.specs.Bag.{Bag}
use Rattle.cal_types.specs.CalendarList.{Date, day_number, month_at}
use Rattle.cal_types.specs.CalendarSystem.{CalendarSystem, resolve_fields}
use Rattle.cal_types.specs.DayDates.{date_on}
use Rattle.cal_types.specs.Month.{code_text}
use Rattle.cal_types.specs.declared.options.DateFromFieldsOptions.{DateFromFieldsOptions}
use Rattle.cal_types.specs.declared.options.Overflow as options
use Rattle.cal_types.specs.declared.year.YearInfo.{YearInfo}
use Rattle.cal_types.specs.declared.year.YearInfo.TheVariants.{Era, Cyclic}
use Rattle.cal_tables.specs.Kinds.{TableContents, kind_system}
use Rattle.date_lines.specs.Dates.{DateText, Day, Fields, date_of}
use Rattle.reply_texts.specs.DateTexts.{cause_text}
use Rattle.reply_texts.specs.Texts.{two_digits}
use Rattle.request_lines.specs.Words.{is_text}
use Rattle.command_line.specs.ConvertAsked.{ConvertAsked}

-- how the fields of a date are resolved
abbrev pub options_with : options.Overflow → DateFromFieldsOptions
options_with overflow = record { overflow = Some overflow; missing_fields_strategy = None }

-- the day number of a date, or why there is none
abbrev pub day_in : CalendarSystem → Result Date DateFromFieldsError → Result ℤ DateFromFieldsError
day_in c (Ok t) = Ok (day_number c.list t)
day_in c (Err cause) = Err cause

abbrev pub day_resolved : CalendarSystem → Bag → DateFromFieldsOptions → Result ℤ DateFromFieldsError
day_resolved c bag options = day_in c (resolve_fields c bag options)

-- a day number that is given
abbrev pub valid_day : ℤ → Result ℤ DateFromFieldsError
valid_day n = if is_valid_day n then Ok n else Err Overflow

abbrev pub day_of : CalendarSystem → options.Overflow → DateText → Result ℤ DateFromFieldsError
day_of c overflow (Day n) = valid_day n
day_of c overflow (Fields bag) = day_resolved c bag (options_with overflow)

-- an era, but for `default`, the era of ISO, and a space
abbrev pub era_text : List ℕ → List ℕ
era_text era = if is_text era (codes "default") then [] else era ++ 32 ∷ []

-- the year of an era, or without one the extended year
abbrev pub shown_year : YearInfo → ℤ → List ℕ
shown_year (Era y) year = era_text y.era ++ signed_decimal y.year
shown_year (Cyclic y) year = signed_decimal year

-- a date, as `5784-M05L-10` or `reiwa 6-M02-19`
abbrev pub shown_date : CalendarSystem → Date → List ℕ
shown_date s t =
    shown_year (s.year_info t) t.year ++ 45 ∷ code_text (month_at s.list t.year t.month) ++ 45 ∷ two_digits t.day

-- an answer, and whether it is a bad one
abbrev pub Answer : Type 0
Answer = List ℕ × Bool

abbrev pub day_answer : CalendarSystem → Result ℤ DateFromFieldsError → Answer
day_answer shown (Ok n) = (shown_date shown (date_on shown.list n), false)
day_answer shown (Err cause) = (33 ∷ cause_text cause, true)

abbrev pub read_answer : CalendarSystem → CalendarSystem → options.Overflow → Result DateText ℕ → Answer
read_answer c shown overflow (Ok date) = day_answer shown (day_of c overflow date)
read_answer c shown overflow (Err place) = (codes "!syntax " ++ decimal place, true)

-- the date of a line in the second calendar, or why it is bad
abbrev pub date_answer : ConvertAsked → TableContents → List ℕ → Answer
date_answer a tables date =
    read_answer (kind_system tables a.calendar) (kind_system tables a.shown) a.overflow (date_of date)

-- the place of the first tab, or the length of a text without one
abbrev pub tab_place : List ℕ → ℕ
tab_place text = unwrap_or (position (λ b. b == 9) text) (length text)

-- with the rest of the line, and its LF
abbrev pub with_rest : Answer → List ℕ → Answer
with_rest answer rest = (answer.0 ++ rest ++ 10 ∷ [], answer.1)

abbrev pub text_answer : ConvertAsked → TableContents → List ℕ → Answer
text_answer a tables text =
    with_rest (date_answer a tables (take (tab_place text) text)) (drop (tab_place text) text)

-- the answer to a line: an empty one, or one of at most 65536 bytes, or a longer one
abbrev pub line_answer : ConvertAsked → TableContents → List ℕ → Answer
line_answer a tables [] = (10 ∷ [], false)
line_answer a tables (b ∷ line) =
    if nat_lt 65536 (length (b ∷ line)) then (codes "!long" ++ 10 ∷ [], true) else text_answer a tables (b ∷ line)

abbrev pub line_text : ConvertAsked → TableContents → List ℕ → List ℕ
line_text a tables line = (line_answer a tables line).0

abbrev pub is_bad : ConvertAsked → TableContents → List ℕ → Bool
is_bad a tables line = (line_answer a tables line).1
