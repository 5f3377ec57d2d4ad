-- Bags of fields, read word by word.
use Rattle.std.specs.Prelude.{ℕ, ℤ, Bool, not, ◌==◌, ◌&&◌, List, [], ◌∷◌, Option, Some, None, codes, drop, take, length, is_none, if◌then◌else◌}
use Rattle.std.specs.List.{list_all}
use Rattle.std.specs.Option.{option_map, option_and_then}
use Rattle.cal_types.specs.Month.{MonthParts, month_read}
use Rattle.cal_types.specs.Bag.{Bag}
use Rattle.word_values.specs.Numbers.{int_of, byte_of}
use Rattle.request_lines.specs.Words.{is_text}
use Rattle.request_lines.specs.Reading.{Read}

-- a field and its value
pub data Field : Type 0 where
  Era : List ℕ → Field
  EraYear : ℤ → Field
  ExtendedYear : ℤ → Field
  Month : MonthParts → Field
  MonthCode : List ℕ → Field
  OrdinalMonth : ℕ → Field
  Day : ℕ → Field

-- any bytes
abbrev pub bytes_of : List ℕ → Option (List ℕ)
bytes_of value = Some value

-- whether a word begins with a key
abbrev pub has_key : List ℕ → List ℕ → Bool
has_key key word = is_text (take (length key) word) key

-- KEY=VALUE of a key that is rarely given
abbrev pub rarer_field_read : List ℕ → Option Field
rarer_field_read word =
    if has_key (codes "era=") word then option_map Era (bytes_of (drop 4 word))
    else (if has_key (codes "era-year=") word then option_map EraYear (int_of (drop 9 word))
    else (if has_key (codes "month-code=") word then option_map MonthCode (bytes_of (drop 11 word))
    else (if has_key (codes "ordinal=") word then option_map OrdinalMonth (byte_of (drop 8 word))
    else None)))

-- KEY=VALUE of a known key
abbrev pub field_read : List ℕ → Option Field
field_read word =
    if has_key (codes "year=") word then option_map ExtendedYear (int_of (drop 5 word))
    else (if has_key (codes "month=") word then option_map Month (month_read (drop 6 word))
    else (if has_key (codes "day=") word then option_map Day (byte_of (drop 4 word))
    else rarer_field_read word))

-- a bag with no fields
abbrev pub no_fields : Bag
no_fields =
    record {
      era = None;
      era_year = None;
      extended_year = None;
      month = None;
      month_code = None;
      ordinal_month = None;
      day = None;
    }

-- the bag with one more field; none where it has that key
abbrev pub with_field : Bag → Field → Option Bag
with_field bag (Era x) = if is_none bag.era then Some (record bag { era = Some x }) else None
with_field bag (EraYear x) = if is_none bag.era_year then Some (record bag { era_year = Some x }) else None
with_field bag (ExtendedYear x) =
    if is_none bag.extended_year then Some (record bag { extended_year = Some x }) else None
with_field bag (Month x) = if is_none bag.month then Some (record bag { month = Some x }) else None
with_field bag (MonthCode x) = if is_none bag.month_code then Some (record bag { month_code = Some x }) else None
with_field bag (OrdinalMonth x) =
    if is_none bag.ordinal_month then Some (record bag { ordinal_month = Some x }) else None
with_field bag (Day x) = if is_none bag.day then Some (record bag { day = Some x }) else None

-- the bag with the field of one more word, of a key that is rarely given
abbrev pub with_rarer_word : Bag → List ℕ → Option Bag
with_rarer_word bag word = option_and_then (with_field bag) (rarer_field_read word)

-- the bag with the field of one more word
abbrev pub with_word : Bag → List ℕ → Option Bag
with_word bag word = option_and_then (with_field bag) (field_read word)

-- the bag of the words before `to`, and the words behind it
abbrev pub bag_before_to : Option Bag → List (List ℕ) → Read Bag
bag_before_to None words = None
bag_before_to (Some bag) [] = None
bag_before_to (Some bag) (word ∷ words) =
    if is_text word (codes "to") then Some (bag, words) else bag_before_to (with_word bag word) words

-- the bag of all words
abbrev pub bag_of_all : Option Bag → List (List ℕ) → Option Bag
bag_of_all None words = None
bag_of_all (Some bag) [] = Some bag
bag_of_all (Some bag) (word ∷ words) = bag_of_all (with_word bag word) words

-- whether a byte is neither a space nor a line feed, which no word of a line holds
abbrev pub is_word_byte : ℕ → Bool
is_word_byte b = not (b == 32) && not (b == 10)

-- the bag with the field of a word that stands by itself
abbrev pub with_whole_word : Bag → List ℕ → Option Bag
with_whole_word bag word = if list_all is_word_byte word then with_word bag word else None
