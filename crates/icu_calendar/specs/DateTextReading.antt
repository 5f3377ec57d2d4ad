-- Reading a text of a date from its front, part by part.
use Rattle.std.specs.Prelude.{ℕ, ◌+◌, ◌-◌, ◌*◌, true, false, ◌&&◌, ◌==◌, List, [], ◌∷◌, length, take, drop, Option, Some, None, is_ok, if◌then◌else◌, ℤ, pos, neg_ℤ}
use Rattle.std.specs.Option.{option_map, option_and_then, option_or}
use Rattle.std.specs.Str.{bytes_eq}
use Rattle.std.specs.Char.{is_ascii_digit}
use Rattle.std.specs.Borrow.{Bor}
use Rattle.cal_types.specs.CalendarList.{Date, date}
use Rattle.icu_calendar.specs.DateText.{calendar_key, is_calendar_name}
use Rattle.icu_calendar.specs.RecordDates.{RecordParts, numbered_date}

-- what was read, and the text behind it
abbrev pub Read : Type 0 → Type 0
Read A = Option (A × List ℕ)

-- what a function read, with the text behind the reference
abbrev pub read_by : {A B : Type 0} → (A → B) → Option (A × Bor (List ℕ)) → Read B
read_by f r = option_map (λ p. (f p.0, p.1.now)) r

abbrev pub read_view : {A : Type 0} → Option (A × Bor (List ℕ)) → Read A
read_view r = option_map (λ p. (p.0, p.1.now)) r

unfoldable pub two_digits_read : List ℕ → Read ℕ
two_digits_read (tens ∷ units ∷ rest) =
    if is_ascii_digit tens && is_ascii_digit units
    then Some (10 * (tens - 48) + (units - 48), rest)
    else None
two_digits_read _ = None

-- two numbers, one behind the other
abbrev pub high_and_low : ℕ → Read ℕ → (List ℕ → Read ℕ) → Read ℕ
high_and_low scale first second =
    option_and_then (λ high. option_map (λ low. (scale * high.0 + low.0, low.1)) (second high.1)) first

unfoldable pub four_digits_read : List ℕ → Read ℕ
four_digits_read text = high_and_low 100 (two_digits_read text) two_digits_read

unfoldable pub six_digits_read : List ℕ → Read ℕ
six_digits_read text = high_and_low 10000 (two_digits_read text) four_digits_read

-- a year that isn't below 0, and one that is
abbrev pub year_from : ℕ × List ℕ → ℤ × List ℕ
year_from p = (pos p.0, p.1)

abbrev pub year_below_0 : ℕ × List ℕ → Read ℤ
year_below_0 p = if p.0 == 0 then None else Some (neg_ℤ (pos p.0), p.1)

unfoldable pub year_read : List ℕ → Read ℤ
year_read [] = option_map year_from (four_digits_read [])
year_read (sign ∷ rest) =
    if sign == 43 then option_map year_from (six_digits_read rest)
    else (if sign == 45 then option_and_then year_below_0 (six_digits_read rest)
    else option_map year_from (four_digits_read (sign ∷ rest)))

-- a minus, and two digits
unfoldable pub part_read : List ℕ → Read ℕ
part_read [] = None
part_read (minus ∷ rest) = if minus == 45 then two_digits_read rest else None

-- a date that is there
abbrev pub existing : Date → List ℕ → Read Date
existing t rest = if is_ok (numbered_date t) then Some (t, rest) else None

unfoldable pub date_read : List ℕ → Read Date
date_read text =
    option_and_then (λ y. option_and_then (λ m. option_and_then (λ d. existing (date y.0 m.0 d.0) d.1)
    (part_read m.1)) (part_read y.1)) (year_read text)

-- the text behind a key
abbrev pub behind : List ℕ → List ℕ → Option (List ℕ)
behind key text = if bytes_eq (take (length key) text) key then Some (drop (length key) text) else None

-- the text behind the key of an annotation
abbrev pub behind_key : List ℕ → Option (List ℕ)
behind_key text = option_or (behind (calendar_key false) text) (behind (calendar_key true) text)

-- the text before a bracket at its end
abbrev pub before_bracket : List ℕ → Option (List ℕ)
before_bracket text =
    if bytes_eq (drop (length text - 1) text) (93 ∷ []) then Some (take (length text - 1) text) else None

abbrev pub checked_name : List ℕ → Option (List ℕ)
checked_name name = if is_calendar_name name then Some name else None

-- the name in an annotation
unfoldable pub name_read : List ℕ → Option (List ℕ)
name_read text = option_and_then checked_name (option_and_then before_bracket (behind_key text))

-- an annotation, or nothing
abbrev pub annotation_read : List ℕ → Option (Option (List ℕ))
annotation_read [] = Some None
annotation_read (byte ∷ rest) = option_map Some (name_read (byte ∷ rest))

-- a date, and at most one annotation
unfoldable pub text_read : List ℕ → Option RecordParts
text_read text =
    option_and_then (λ t. option_map (λ name. record { date = Some t.0; calendar = name }) (annotation_read t.1))
    (date_read text)
