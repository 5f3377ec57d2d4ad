-- The date of a line.
use Rattle.std.specs.Prelude.{ℕ, ◌+◌, ◌-◌, ◌*◌, ◌==◌, ℤ, List, [], ◌∷◌, length, take, drop, Option, Some, None, Result, Ok, Err, if◌then◌else◌}
use Rattle.std.specs.Char.{is_ascii_lowercase}
use Rattle.cal_types.specs.Bag.{Bag}
use Rattle.cal_types.specs.Month.{MonthParts, leap_month, plain_month}
use Rattle.date_lines.specs.Reading.{Reading, and_then, behind, byte_read, digit_read, int_read, letter_count, short_read}

-- a month by its code, or by its place in the year
pub data MonthText : Type 0 where
  Code : MonthParts → MonthText
  Ordinal : ℕ → MonthText

-- a year, a month and a day
pub record Numbers : Type 0 where
  pub year : ℤ
  pub month : MonthText
  pub day : ℕ

-- a day by its number, or a date by its fields
pub data DateText : Type 0 where
  Day : ℤ → DateText
  Fields : Bag → DateText

-- behind two digits `L` for a leap month
abbrev pub leap_read : ℕ → List ℕ → Reading MonthText
leap_read number [] = Ok (Code (plain_month number), [])
leap_read number (b ∷ rest) =
    if b == 76 then Ok (Code (leap_month number), rest) else Ok (Code (plain_month number), b ∷ rest)

-- behind the `M` of a month code two digits, and `L` for a leap month
unfoldable pub code_read : List ℕ → Reading MonthText
code_read text =
    and_then (digit_read text) (λ tens rest.
    and_then (digit_read rest) (λ units rest. leap_read (10 * tens + units) rest))

-- one or two digits
abbrev pub ordinal : ℕ → List ℕ → Reading MonthText
ordinal n rest = Ok (Ordinal n, rest)

unfoldable pub ordinal_read : List ℕ → Reading MonthText
ordinal_read text = and_then (short_read text) ordinal

-- a month code, or the one or two digits of an ordinal month
unfoldable pub month_read : List ℕ → Reading MonthText
month_read [] = ordinal_read []
month_read (b ∷ rest) = if b == 77 then code_read rest else ordinal_read (b ∷ rest)

-- `YEAR-MONTH-DAY`
unfoldable pub numbers_read : List ℕ → Reading Numbers
numbers_read text =
    and_then (int_read text) (λ year rest.
    behind (byte_read 45 rest) (λ rest.
    and_then (month_read rest) (λ month rest.
    behind (byte_read 45 rest) (λ rest.
    and_then (short_read rest) (λ day rest.
    Ok (record { year = year; month = month; day = day }, rest))))))

-- the parts of a month in a bag of fields
abbrev pub month_of : MonthText → Option MonthParts
month_of (Code m) = Some m
month_of (Ordinal n) = None

abbrev pub ordinal_of : MonthText → Option ℕ
ordinal_of (Code m) = None
ordinal_of (Ordinal n) = Some n

-- the fields of a date, with its years
abbrev pub fields_with : Option (List ℕ) → Option ℤ → Option ℤ → Numbers → Bag
fields_with era era_year extended_year numbers = record {
  era = era;
  era_year = era_year;
  extended_year = extended_year;
  month = month_of numbers.month;
  month_code = None;
  ordinal_month = ordinal_of numbers.month;
  day = Some numbers.day;
}

-- `YEAR-MONTH-DAY`, with an extended year
unfoldable pub plain_read : List ℕ → Reading DateText
plain_read text =
    and_then (numbers_read text)
    (λ numbers rest. Ok (Fields (fields_with None None (Some numbers.year) numbers), rest))

-- `ERA YEAR-MONTH-DAY`, with an era year
unfoldable pub era_read : List ℕ → Reading DateText
era_read text =
    let era = take (letter_count text) text in
    behind (byte_read 32 (drop (letter_count text) text)) (λ rest.
    and_then (numbers_read rest)
    (λ numbers rest. Ok (Fields (fields_with (Some era) (Some numbers.year) None numbers), rest)))

abbrev pub day_read : ℤ → List ℕ → Reading DateText
day_read n rest = Ok (Day n, rest)

-- `@DAYNUMBER`, a date with an era, or one without
unfoldable pub dated_read : List ℕ → Reading DateText
dated_read [] = plain_read []
dated_read (b ∷ rest) =
    if b == 64 then and_then (int_read rest) day_read
    else (if is_ascii_lowercase b then era_read (b ∷ rest) else plain_read (b ∷ rest))

-- the place of a rest, counted from 1
abbrev pub place_of : List ℕ → List ℕ → ℕ
place_of text rest = (length text - length rest) + 1

-- a date that is all of a text, or the place of the first bad byte
abbrev pub whole_date : List ℕ → Reading DateText → Result DateText ℕ
whole_date text (Ok (date, [])) = Ok date
whole_date text (Ok (date, b ∷ rest)) = Err (place_of text (b ∷ rest))
whole_date text (Err rest) = Err (place_of text rest)

abbrev pub date_of : List ℕ → Result DateText ℕ
date_of text = whole_date text (dated_read text)
