-- Months, their order, and their codes.
-- Source: the month codes of ECMAScript Temporal.
use Rattle.std.specs.Prelude.{ℕ, ◌+◌, ◌-◌, ◌*◌, ◌/◌, ◌%◌, Bool, true, false, ◌&&◌, nat_eq, min, if◌then◌else◌, Option, Some, None, option_map, List, [], ◌∷◌, take, drop}
use Rattle.std.specs.Char.{is_ascii_digit}
use Rattle.std.specs.List.{starts_with}

-- a month: its number, and whether it is a leap month
pub record MonthParts : Type 0 where
  pub number : ℕ
  pub is_leap : Bool

-- the plain month of a number, which is taken as 99 where it is larger
abbrev pub plain_month : ℕ → MonthParts
plain_month n = record { number = min n 99; is_leap = false }

-- the leap month of a number, which is taken as 99 where it is larger
abbrev pub leap_month : ℕ → MonthParts
leap_month n = record { number = min n 99; is_leap = true }

-- the order of months as a number: by number, and a plain month before the leap month of its number
abbrev pub month_rank : MonthParts → ℕ
month_rank m = 2 * m.number + (if m.is_leap then 1 else 0)

-- the month code: `M`, two digits, and `L` for a leap month (77 is `M`, 48 is `0`, 76 is `L`)
abbrev pub code_text : MonthParts → List ℕ
code_text m = 77 ∷ (48 + m.number / 10) ∷ (48 + m.number % 10) ∷ (if m.is_leap then 76 ∷ [] else [])

-- what follows a month code's digits: nothing for a plain month, `L` for a leap month
abbrev pub leap_read : List ℕ → Option Bool
leap_read [] = Some false
leap_read (letter ∷ []) = if nat_eq letter 76 then Some true else None
leap_read _ = None

-- the month that two digits number
abbrev pub month_of_digits : ℕ → ℕ → Bool → MonthParts
month_of_digits tens units leap = record { number = 10 * (tens - 48) + (units - 48); is_leap = leap }

-- the same where both are digits
abbrev pub month_numbered : ℕ → ℕ → Bool → Option MonthParts
month_numbered tens units leap =
    if is_ascii_digit tens && is_ascii_digit units then Some (month_of_digits tens units leap) else None

-- the month code with two digits
abbrev pub code_numbered : ℕ → ℕ → Bool → List ℕ
code_numbered tens units leap = 77 ∷ tens ∷ units ∷ (if leap then 76 ∷ [] else [])

-- the month that a month code names: `M`, two digits, and nothing more or `L`
abbrev pub month_read : List ℕ → Option MonthParts
month_read (letter ∷ tens ∷ units ∷ rest) =
    if nat_eq letter 77 && is_ascii_digit tens && is_ascii_digit units
    then option_map (month_of_digits tens units) (leap_read rest)
    else None
month_read _ = None

-- the code of the plain month for a text whose fourth byte is `L`: its first three bytes
abbrev pub normal_code : List ℕ → Option (List ℕ)
normal_code text = if starts_with nat_eq (drop 3 text) (76 ∷ []) then Some (take 3 text) else None
