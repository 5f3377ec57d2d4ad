-- A field is named by one key of several: what is left of the choice behind each key.
use Rattle.std.proofs.Common.{◌≡◌, ℕ, List, Option, Some, None, codes, drop, if◌then◌else◌}
use Rattle.std.specs.Option.{option_map}
use Rattle.cal_types.specs.Month.{month_read}
use Rattle.cal_types.specs.Bag.{Bag}
use Rattle.word_values.specs.Numbers.{int_of, byte_of}
use Rattle.request_lines.specs.Reading.{Read, IsReading}
use Rattle.request_lines.specs.Bags.{Field, EraYear, Month, MonthCode, OrdinalMonth, Day, bytes_of, has_key, rarer_field_read}

abbrev pub behind_month_code : List ℕ → Option Field
behind_month_code word = if has_key (codes "ordinal=") word then option_map OrdinalMonth (byte_of (drop 8 word)) else None

abbrev pub behind_era_year : List ℕ → Option Field
behind_era_year word = if has_key (codes "month-code=") word then option_map MonthCode (bytes_of (drop 11 word)) else behind_month_code word

abbrev pub behind_era : List ℕ → Option Field
behind_era word = if has_key (codes "era-year=") word then option_map EraYear (int_of (drop 9 word)) else behind_era_year word

abbrev pub behind_month : List ℕ → Option Field
behind_month word = if has_key (codes "day=") word then option_map Day (byte_of (drop 4 word)) else rarer_field_read word

abbrev pub behind_year : List ℕ → Option Field
behind_year word = if has_key (codes "month=") word then option_map Month (month_read (drop 6 word)) else behind_month word

-- nothing is set where nothing is read
pub sets_nothing : {U : Type 0} (reading : Read Bag) (result : Option U) (new : Bag) (left : List (List ℕ)) → result ≡ None → reading ≡ None
    → IsReading reading (option_map (λ _. new) result) left
sets_nothing reading None new left is none = none
sets_nothing reading (Some u) new left is none = cc
