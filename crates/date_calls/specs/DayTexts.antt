-- Texts of dates (RFC 9557), as they are written.
use Rattle.std.specs.Prelude.{◌≡◌, ℕ, ℤ, pos, int_lt, int_le, unsigned_abs, Bool, true, false, List, [], ◌∷◌, ◌++◌, length, codes, Option, Some, None, Result, Ok, Err, MatchResult, MatchBool, if◌then◌else◌}
use Rattle.std.specs.List.{slice_get}
use Rattle.cal_base.specs.IsoSystem.{iso_list}
use Rattle.cal_days.specs.Day.{is_valid_day}
use Rattle.cal_types.specs.CalendarList.{Date, IsOn}
use Rattle.date_calls.specs.Calls.{IsLeftWith, put_code}
use Rattle.date_calls.specs.Rooms.{IsPut}
use Rattle.icu_calendar.specs.DateText.{FourDigits, IsDateText, Minus, Plus, YearForm, annotation, is_calendar_name, two_digits, year_text}

-- the names of the calendars in the order of their codes: CLDR's and, where it has none, the program's.
-- A date of the ISO calendar is written without a name
abbrev pub text_names : List (Option (List ℕ))
text_names =
    Some (codes "buddhist")
    ∷ Some (codes "chinese")
    ∷ Some (codes "coptic")
    ∷ Some (codes "dangi")
    ∷ Some (codes "ethiopic")
    ∷ Some (codes "ethioaa")
    ∷ Some (codes "gregory")
    ∷ Some (codes "hebrew")
    ∷ Some (codes "indian")
    ∷ Some (codes "islamic-civil")
    ∷ Some (codes "islamic-simulated")
    ∷ Some (codes "islamic-tbla")
    ∷ Some (codes "islamic-umalqura")
    ∷ None
    ∷ Some (codes "japanese")
    ∷ Some (codes "julian")
    ∷ Some (codes "persian")
    ∷ Some (codes "roc")
    ∷ Some (codes "islamic-type1-friday")
    ∷ Some (codes "islamic-type1-thursday")
    ∷ []

-- what the texts of a calendar's dates name, where a calendar has the code
abbrev pub name_of_code : ℕ → Option (Option (List ℕ))
name_of_code code = slice_get text_names code

-- the parts of a name have at most eight bytes, or there is no name
abbrev pub is_named : Option (List ℕ) → Bool
is_named None = true
is_named (Some name) = is_calendar_name name

abbrev pub allowed : Option (Option (List ℕ)) → Result (Option (List ℕ)) ℕ
allowed None = Err 1
allowed (Some name) = if is_named name then Ok name else Err 21

-- what the texts of a calendar's dates name; otherwise the code of the fault
abbrev pub text_name : ℕ → Result (Option (List ℕ)) ℕ
text_name code = allowed (name_of_code code)

-- what follows the date
abbrev pub behind_date : Result (Option (List ℕ)) ℕ → Result (List ℕ) ℕ
behind_date (Ok name) = Ok (annotation false name)
behind_date (Err why) = Err why

-- years from 0 to 9999 have four digits, and all others a sign and six
abbrev pub form_of : ℤ → YearForm
form_of year = if int_lt year (pos 0) then Minus else (if int_le year (pos 9999) then FourDigits else Plus)

-- a date without a name
abbrev pub plain_text : ℤ → ℕ → ℕ → List ℕ
plain_text year month day =
    year_text (form_of year) (unsigned_abs year) ++ (45 ∷ two_digits month ++ (45 ∷ two_digits day))

-- the text says the ISO date of a day and the name, in the form of the year, and without the mark of what is critical
pub record IsTextOf (day : ℤ) (name : Option (List ℕ)) (bytes : List ℕ) : Type 0 where
  pub date : Date
  pub on : IsOn iso_list day date
  pub text : IsDateText bytes date name
  pub form : text.form ≡ form_of date.year
  pub uncritical : text.critical ≡ false

-- a text is told where it fits, and its length in any case
pub record PutsText (text : List ℕ) (code written : ℕ) (before now : List ℕ) : Type 0 where
  pub count : written ≡ length text
  pub fits : Bool
  pub put : IsPut fits text before now
  pub told : code ≡ put_code fits

-- the text of a day's date is told
pub record TellsText (day : ℤ) (name : Option (List ℕ)) (code written : ℕ) (before now : List ℕ) : Type 0 where
  pub text : List ℕ
  pub is : IsTextOf day name text
  pub puts : PutsText text code written before now

-- what is answered about a day's text
abbrev pub WritesText : ℕ → ℤ → ℕ → ℕ → List ℕ → List ℕ → Type 0
WritesText calendar day code written before now =
    MatchResult (text_name calendar)
    (λ name. MatchBool (is_valid_day day) (TellsText day name code written before now)
    (IsLeftWith 4 code written before now))
    (λ why. IsLeftWith why code written before now)
