-- The days of UNTIL: eight digits, which are the year, the month and the day of a date in the Gregorian calendar.
-- A time of day may follow, which no rule over dates has.
-- Source: RFC 5545, 3.3.4, 3.3.5 and 3.3.10.
use Rattle.std.specs.Prelude.{ℕ, ◌/◌, ◌%◌, ◌&&◌, nat_le, Bool, true, false, if◌then◌else◌, List, [], ◌∷◌, length, take, drop, get_or, Result, Ok, Err, ℤ, pos}
use Rattle.std.specs.Char.{eq_ignore_ascii_case, is_ascii_digit}
use Rattle.std.specs.List.{list_all}
use Rattle.std.specs.Option.{ok_or}
use Rattle.cal_types.specs.CalendarList.{Date, date, day_number, is_date}
use Rattle.cal_base.specs.IsoSystem.{iso_list}
use Rattle.word_values.specs.Numbers.{number_of}
use Rattle.cal_rule.specs.Steps.{read_then}
use Rattle.cal_rule.specs.declared.value_fault.ValueFault.{ValueFault}
use Rattle.cal_rule.specs.declared.value_fault.ValueFault.TheVariants.{Bad, OutOfRange, Time}

-- the date that is written as one number: two digits are the day, two the month, and the others the year
abbrev pub written_date : ℕ → Date
written_date n = date (pos (n / 10000)) (n / 100 % 100) (n % 100)

abbrev pub until_dated : ℕ → Result ℤ ValueFault
until_dated n = if is_date iso_list (written_date n) then Ok (day_number iso_list (written_date n)) else Err OutOfRange

-- nothing, or a `Z` (90)
abbrev pub is_zone : List ℕ → Bool
is_zone [] = true
is_zone (zone ∷ []) = eq_ignore_ascii_case zone 90
is_zone _ = false

-- `T` (84), six digits, and an optional `Z`
abbrev pub is_time : List ℕ → Bool
is_time text =
    (nat_le 7 (length text) && eq_ignore_ascii_case (get_or text 0 0) 84)
    && (list_all is_ascii_digit (take 6 (drop 1 text)) && is_zone (drop 7 text))

-- a number of eight digits, and what stands behind them
abbrev pub until_whole : List ℕ → ℕ → Result ℤ ValueFault
until_whole [] n = until_dated n
until_whole (b ∷ behind) n = if is_time (b ∷ behind) then Err Time else Err Bad

abbrev pub until_read : List ℕ → Result ℤ ValueFault
until_read text =
    if nat_le 8 (length text) then read_then (until_whole (drop 8 text)) (ok_or (number_of 8 (take 8 text)) Bad)
    else Err Bad
