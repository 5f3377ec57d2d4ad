-- Texts of dates (RFC 9557): the day and the calendar that a text names.
use Rattle.std.specs.Prelude.{◌≡◌, ℕ, ℤ, min, List, [], ◌∷◌, ◌||◌, ◌==◌, codes, drop, length, Bool, false, Option, Some, None, Result, MatchResult, if◌then◌else◌}
use Rattle.std.specs.Option.{option_and_then}
use Rattle.cal_julian.specs.JulianList.{julian_list}
use Rattle.cal_kinds.specs.KindNames.{kind_named}
use Rattle.cal_kinds.specs.declared.any_calendar_kind.AnyCalendarKind.{AnyCalendarKind}
use Rattle.cal_kinds.specs.declared.any_calendar_kind.AnyCalendarKind.TheVariants as kind
use Rattle.cal_types.specs.CalendarList.{Date, day_number}
use Rattle.cal_types.specs.YearNames.{is_code}
use Rattle.date_calls.specs.Codes.{code_of_kind}
use Rattle.icu_calendar.specs.DateText.{IsDateText}
use Rattle.icu_calendar.specs.DateTextReading.{before_bracket, behind_key}
use Rattle.icu_calendar.specs.RecordDates.{AnswersText, ParseFault}

-- a text begins with the sign of a year (43 is `+`, 45 is `-`)
abbrev pub has_sign : List ℕ → Bool
has_sign [] = false
has_sign (byte ∷ rest) = byte == 43 || byte == 45

-- what stands behind the date of a text
abbrev pub behind_date : List ℕ → List ℕ
behind_date text = drop (min (if has_sign text then 13 else 10) (length text)) text

-- the name in what stands there
abbrev pub name_behind : List ℕ → Option (List ℕ)
name_behind text = option_and_then before_bracket (behind_key (behind_date text))

-- the name of a calendar in a text of a date
abbrev pub IsNameIn : List ℕ → Option (List ℕ) → Type 0
IsNameIn bytes found = (t : Date) (name : Option (List ℕ)) → IsDateText bytes t name → found ≡ name

-- the kind of calendar with a name in CLDR or in the program
abbrev pub kind_in_text : List ℕ → Option AnyCalendarKind
kind_in_text name =
    if is_code name (codes "gregory") then Some kind.Gregorian
    else (if is_code name (codes "iso8601") then Some kind.Iso else kind_named name)

-- without a name the calendar is ISO
abbrev pub kind_of_name : Option (List ℕ) → Option AnyCalendarKind
kind_of_name None = Some kind.Iso
kind_of_name (Some name) = kind_in_text name

-- the code of the calendar with a name
abbrev pub code_of_name : Option (List ℕ) → Option ℕ
code_of_name name = option_and_then code_of_kind (kind_of_name name)

-- the code of the calendar that a text names
pub record IsCalendarIn (bytes : List ℕ) (code : Option ℕ) : Type 0 where
  pub name : Option (List ℕ)
  pub named : IsNameIn bytes name
  pub is : code ≡ code_of_name name

-- the day that a text names, as the library answers for a calendar that accepts any name: the Julian one has none
pub record IsDayIn (bytes : List ℕ) (found : Option ℤ) : Type 0 where
  pub answer : Result Date ParseFault
  pub answers : AnswersText julian_list None bytes answer
  pub is : MatchResult answer (λ t. found ≡ Some (day_number julian_list t)) (λ _. found ≡ None)

-- a code is told, and the calendar and the day are as they were
pub record IsUnread (why code calendar_before calendar : ℕ) (day_before day : ℤ) : Type 0 where
  pub told : code ≡ why
  pub calendar_stands : calendar ≡ calendar_before
  pub day_stands : day ≡ day_before

-- the calendar and the day are told, if there are both
abbrev pub IsTextTold : Option ℤ → Option ℕ → ℕ → ℕ → ℕ → ℤ → ℤ → Type 0
IsTextTold None named code calendar_before calendar day_before day =
    IsUnread 21 code calendar_before calendar day_before day
IsTextTold (Some n) None code calendar_before calendar day_before day =
    IsUnread 1 code calendar_before calendar day_before day
IsTextTold (Some n) (Some c) code calendar_before calendar day_before day =
    (code ≡ 0) × (calendar ≡ c) × (day ≡ n)

-- what is answered about a text
pub record ReadsText (bytes : List ℕ) (code calendar_before calendar : ℕ) (day_before day : ℤ) : Type 0 where
  pub found : Option ℤ
  pub day_in : IsDayIn bytes found
  pub named : Option ℕ
  pub calendar_in : IsCalendarIn bytes named
  pub told : IsTextTold found named code calendar_before calendar day_before day
