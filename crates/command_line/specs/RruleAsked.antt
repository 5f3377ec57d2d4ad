-- What the words of `rrule` ask for.
use Rattle.std.specs.Prelude.{ℕ, ℤ, List, [], ◌∷◌, Option, Some, None}
use Rattle.std.specs.Option.{option_map}
use Rattle.cal_types.specs.Bag.{Bag}
use Rattle.cal_kinds.specs.KindNames.{kind_named}
use Rattle.cal_kinds.specs.declared.any_calendar_kind.AnyCalendarKind.{AnyCalendarKind}
use Rattle.word_values.specs.Numbers.{int_of}
use Rattle.request_lines.specs.Reading.{Read, next_word, and_then}
use Rattle.request_lines.specs.Bags.{no_fields, with_whole_word}

-- the calendars and the window
pub record RruleHeader : Type 0 where
  pub calendar : AnyCalendarKind
  pub shown : AnyCalendarKind
  pub first : ℤ
  pub last : ℤ

-- the start: a day number, or the fields of a date
pub data RruleStart : Type 0 where
  OnDay : ℤ → RruleStart
  OfFields : Bag → RruleStart

-- with the start, and the text of the rule
pub record RruleAsked : Type 0 where
  pub header : RruleHeader
  pub start : RruleStart
  pub rule : List ℕ

-- `CAL SHOWN FIRST LAST`
unfoldable pub rrule_header_read : List (List ℕ) → Read RruleHeader
rrule_header_read words =
    and_then (next_word kind_named words) (λ calendar words.
    and_then (next_word kind_named words) (λ shown words.
    and_then (next_word int_of words) (λ first words.
    and_then (next_word int_of words) (λ last words.
    Some (record { calendar = calendar; shown = shown; first = first; last = last }, words)))))

-- all words but the last one are fields, from a word on
abbrev pub fields_before : Option Bag → List ℕ → List (List ℕ) → Option (Bag × List ℕ)
fields_before None word words = None
fields_before (Some bag) word [] = Some (bag, word)
fields_before (Some bag) word (next ∷ words) = fields_before (with_whole_word bag word) next words

-- a start of fields
abbrev pub of_fields : Bag × List ℕ → RruleStart × List ℕ
of_fields read = (OfFields read.0, read.1)

-- a start of a day
abbrev pub on_day : List ℕ → ℤ → RruleStart × List ℕ
on_day rule n = (OnDay n, rule)

-- one thing if there is one, and otherwise another
abbrev pub or_else : {A : Type 0} → Option A → Option A → Option A
or_else (Some x) other = Some x
or_else None other = other

-- a day number and the rule
abbrev pub day_before : List ℕ → List (List ℕ) → Option (RruleStart × List ℕ)
day_before word (rule ∷ []) = option_map (on_day rule) (int_of word)
day_before word [] = None
day_before word (rule ∷ (next ∷ words)) = None

-- `START RULE`: the last word is the rule. The words before it are one day number, or zero or more fields
abbrev pub start_and_rule : List (List ℕ) → Option (RruleStart × List ℕ)
start_and_rule [] = None
start_and_rule (word ∷ words) =
    or_else (day_before word words) (option_map of_fields (fields_before (Some no_fields) word words))

abbrev pub rrule_with : RruleHeader → RruleStart × List ℕ → RruleAsked
rrule_with header read = record { header = header; start = read.0; rule = read.1 }

-- `CAL SHOWN FIRST LAST START RULE`
unfoldable pub rrule_of : List (List ℕ) → Option RruleAsked
rrule_of words =
    and_then (rrule_header_read words) (λ header words. option_map (rrule_with header) (start_and_rule words))
