-- Texts of dates: a date of the ISO calendar, and the name of the calendar that it is to be read into.
-- Source: the date of ISO 8601 with years of four digits, or of a sign and six, and the annotation `u-ca` of RFC 9557.
use Rattle.std.specs.Prelude.{◌≡◌, ℕ, ◌+◌, ◌/◌, ◌%◌, ◌<◌, Bool, true, false, ◌&&◌, ◌||◌, ◌==◌, nat_le, ⊤, List, [], ◌∷◌, ◌++◌, length, codes, Option, Some, None, ℤ, pos, neg_ℤ}
use Rattle.std.specs.Char.{is_ascii_digit, is_ascii_lowercase}
use Rattle.std.specs.List.{list_all, slice_split}
use Rattle.cal_types.specs.CalendarList.{Date, IsDate}
use Rattle.cal_base.specs.IsoSystem.{iso_list}

-- decimal numbers with leading zeros (48 is `0`)
abbrev pub two_digits : ℕ → List ℕ
two_digits n = (48 + n / 10) ∷ (48 + n % 10) ∷ []

abbrev pub four_digits : ℕ → List ℕ
four_digits n = two_digits (n / 100) ++ two_digits (n % 100)

abbrev pub six_digits : ℕ → List ℕ
six_digits n = two_digits (n / 10000) ++ four_digits (n % 10000)

-- a year is written in four digits, or with a sign in six
pub data YearForm : Type 0 where
  FourDigits : YearForm
  Plus : YearForm
  Minus : YearForm

-- the numbers that each form writes: 0 has no minus
abbrev pub HasForm : YearForm → ℕ → Type 0
HasForm FourDigits n = n < 10000
HasForm Plus n = n < 1000000
HasForm Minus n = (0 < n) × (n < 1000000)

-- the year that is meant
abbrev pub year_of : YearForm → ℕ → ℤ
year_of FourDigits n = pos n
year_of Plus n = pos n
year_of Minus n = neg_ℤ (pos n)

-- its text (43 is `+`, 45 is `-`)
abbrev pub year_text : YearForm → ℕ → List ℕ
year_text FourDigits n = four_digits n
year_text Plus n = 43 ∷ six_digits n
year_text Minus n = 45 ∷ six_digits n

-- a lower-case letter or a digit
abbrev pub is_name_byte : ℕ → Bool
is_name_byte b = is_ascii_lowercase b || is_ascii_digit b

-- one to eight of them
abbrev pub is_name_part : List ℕ → Bool
is_name_part part = (nat_le 1 (length part) && nat_le (length part) 8) && list_all is_name_byte part

-- the name of a calendar: such parts, with a hyphen between each two
abbrev pub is_calendar_name : List ℕ → Bool
is_calendar_name name = list_all is_name_part (slice_split (λ b. b == 45) name)

-- the key of a calendar's annotation, which may be marked as critical
abbrev pub calendar_key : Bool → List ℕ
calendar_key false = codes "[u-ca="
calendar_key true = codes "[!u-ca="

-- at most one annotation (93 is `]`)
abbrev pub annotation : Bool → Option (List ℕ) → List ℕ
annotation critical None = []
annotation critical (Some name) = calendar_key critical ++ (name ++ 93 ∷ [])

abbrev pub IsName : Option (List ℕ) → Type 0
IsName None = ⊤
IsName (Some name) = is_calendar_name name ≡ true

-- the text says this date and this name: year, month and day, with a minus between each two,
-- and an annotation where there is a name
pub record IsDateText (bytes : List ℕ) (t : Date) (name : Option (List ℕ)) : Type 0 where
  pub form : YearForm
  pub number : ℕ
  pub fits : HasForm form number
  pub year : t.year ≡ year_of form number
  pub exists : IsDate iso_list t
  pub critical : Bool
  pub named : IsName name
  pub text : bytes
      ≡ year_text form number ++ (45 ∷ two_digits t.month ++ (45 ∷ two_digits t.day ++ annotation critical name))
