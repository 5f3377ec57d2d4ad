-- What the words of a bag say, as one statement of all of them.
use Rattle.std.specs.Prelude.{◌≡◌, ◌≢◌, List, [], ◌∷◌, ◌++◌, ℕ, Option, Some, codes}
use Rattle.std.specs.Option.{option_or}
use Rattle.cal_types.specs.Month.{month_read}
use Rattle.cal_types.specs.Bag.{Bag}
use Rattle.word_values.specs.Numbers.{int_of, byte_of}
use Rattle.request_lines.specs.Bags.{Field, Era, EraYear, ExtendedYear, Month, MonthCode, OrdinalMonth, Day, bytes_of, no_fields}

-- the word is the key, and behind it a text that reads as the value
pub record IsKeyed {T : Type 0} (key : List ℕ) (read : List ℕ → Option T) (word : List ℕ) (x : T) : Type 0 where
  pub value : List ℕ
  pub is : word ≡ key ++ value
  pub reads : read value ≡ Some x

-- a word KEY=VALUE says a field
abbrev pub SaysField : List ℕ → Field → Type 0
SaysField word (Era x) = IsKeyed (codes "era=") bytes_of word x
SaysField word (EraYear x) = IsKeyed (codes "era-year=") int_of word x
SaysField word (ExtendedYear x) = IsKeyed (codes "year=") int_of word x
SaysField word (Month x) = IsKeyed (codes "month=") month_read word x
SaysField word (MonthCode x) = IsKeyed (codes "month-code=") bytes_of word x
SaysField word (OrdinalMonth x) = IsKeyed (codes "ordinal=") byte_of word x
SaysField word (Day x) = IsKeyed (codes "day=") byte_of word x

-- each word says a field
abbrev pub SayFields : List (List ℕ) → List Field → Type 0
SayFields [] [] = Unit {0}
SayFields [] (f ∷ fields) = ⊥
SayFields (word ∷ words) [] = ⊥
SayFields (word ∷ words) (f ∷ fields) = SaysField word f × SayFields words fields

-- the key of a field
abbrev pub key_of : Field → List ℕ
key_of (Era x) = codes "era"
key_of (EraYear x) = codes "era-year"
key_of (ExtendedYear x) = codes "year"
key_of (Month x) = codes "month"
key_of (MonthCode x) = codes "month-code"
key_of (OrdinalMonth x) = codes "ordinal"
key_of (Day x) = codes "day"

-- none of the fields has this key
abbrev pub HasNoKey : List ℕ → List Field → Type 0
HasNoKey key [] = Unit {0}
HasNoKey key (f ∷ fields) = (key_of f ≢ key) × HasNoKey key fields

-- no key stands twice
abbrev pub KeysOnce : List Field → Type 0
KeysOnce [] = Unit {0}
KeysOnce (f ∷ fields) = HasNoKey (key_of f) fields × KeysOnce fields

-- one field alone
abbrev pub only : Field → Bag
only (Era x) = record no_fields { era = Some x }
only (EraYear x) = record no_fields { era_year = Some x }
only (ExtendedYear x) = record no_fields { extended_year = Some x }
only (Month x) = record no_fields { month = Some x }
only (MonthCode x) = record no_fields { month_code = Some x }
only (OrdinalMonth x) = record no_fields { ordinal_month = Some x }
only (Day x) = record no_fields { day = Some x }

-- the fields of two bags, each of the first that has it
abbrev pub beside : Bag → Bag → Bag
beside a b = record {
  era = option_or a.era b.era;
  era_year = option_or a.era_year b.era_year;
  extended_year = option_or a.extended_year b.extended_year;
  month = option_or a.month b.month;
  month_code = option_or a.month_code b.month_code;
  ordinal_month = option_or a.ordinal_month b.ordinal_month;
  day = option_or a.day b.day;
}

-- the bag of some fields
abbrev pub bag_with : List Field → Bag
bag_with [] = no_fields
bag_with (f ∷ fields) = beside (only f) (bag_with fields)

-- the words are fields, none of a key that stands twice, and together they are the bag
pub record SaysBag (words : List (List ℕ)) (bag : Bag) : Type 0 where
  pub fields : List Field
  pub say : SayFields words fields
  pub once : KeysOnce fields
  pub is : bag ≡ bag_with fields
