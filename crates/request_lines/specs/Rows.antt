-- What a row line says: a row of a table of years, a corrected Persian year, or an era of Japan.
use Rattle.std.specs.Prelude.{ℕ, ℤ, Bool, ◌==◌, ◌&&◌, ◌||◌, nat_lt, nat_le, List, [], ◌∷◌, length, codes, Option, Some, None, if◌then◌else◌}
use Rattle.std.specs.List.{list_all}
use Rattle.std.specs.Option.{option_and_then}
use Rattle.word_values.specs.Numbers.{int_of, byte_of}
use Rattle.request_lines.specs.Words.{is_text}
use Rattle.request_lines.specs.Reading.{Read, next_word, and_then}
use Rattle.request_lines.specs.Requests.{fixed_word}
use Rattle.request_lines.specs.declared.era_row.RowDate.{RowDate}
use Rattle.request_lines.specs.declared.row.RowKind.{RowKind}
use Rattle.request_lines.specs.declared.row.RowKind.TheVariants as kind

-- a year: its number, the rata die of its first day, a letter for each month, and the place of the leap month
pub record YearRow : Type 0 where
  pub year : ℤ
  pub start : ℤ
  -- 108, `l`, for 30 days, and 115, `s`, for 29
  pub lengths : List ℕ
  -- 0 where there is no leap month
  pub leap : ℕ

-- an era: its first day, its code, and its index among the eras
pub record EraRow : Type 0 where
  pub start : RowDate
  pub code : List ℕ
  pub index : ℕ

pub data Row : Type 0 where
  China : YearRow → Row
  Korea : YearRow → Row
  Hijri : YearRow → Row
  Persian : ℤ → Row
  Era : EraRow → Row

-- the kind of row that a word names
abbrev pub kind_named : List ℕ → Option RowKind
kind_named word =
    if is_text word (codes "china") then Some kind.China
    else (if is_text word (codes "korea") then Some kind.Korea
    else (if is_text word (codes "hijri") then Some kind.Hijri
    else (if is_text word (codes "persian") then Some kind.Persian
    else (if is_text word (codes "era") then Some kind.Era else None))))

-- `l` or `s`
abbrev pub is_length : ℕ → Bool
is_length b = b == 108 || b == 115

-- whether the word has 12 to `most` letters, each `l` or `s`
abbrev pub are_lengths : ℕ → List ℕ → Bool
are_lengths most word = (nat_le 12 (length word) && nat_le (length word) most) && list_all is_length word

-- the lengths of 12 to `most` months
abbrev pub lengths_of : ℕ → List ℕ → Option (List ℕ)
lengths_of most word = if are_lengths most word then Some word else None

-- how many months go with the place of the leap month, or with 0
abbrev pub months_beside : ℕ → ℕ
months_beside leap = if leap == 0 then 12 else 13

-- the place of the leap month, where there are 13 lengths, and 0 where there are 12
abbrev pub leap_beside : List ℕ → ℕ → Option ℕ
leap_beside lengths leap = if length lengths == months_beside leap then Some leap else None

-- a byte that goes with the lengths
abbrev pub leap_of : List ℕ → List ℕ → Option ℕ
leap_of lengths word = option_and_then (leap_beside lengths) (byte_of word)

-- `a` to `z`
abbrev pub is_code_letter : ℕ → Bool
is_code_letter b = nat_le 97 b && nat_le b 122

-- whether the word is one to eight letters
abbrev pub is_era_code : List ℕ → Bool
is_era_code word = (nat_lt 0 (length word) && nat_le (length word) 8) && list_all is_code_letter word

-- the code of an era
abbrev pub code_of : List ℕ → Option (List ℕ)
code_of word = if is_era_code word then Some word else None

-- `YEAR START LENGTHS LEAP`
unfoldable pub lunisolar_read : List (List ℕ) → Read YearRow
lunisolar_read words =
    and_then (next_word int_of words) (λ year words.
    and_then (next_word int_of words) (λ start words.
    and_then (next_word (lengths_of 13) words) (λ lengths words.
    and_then (next_word (leap_of lengths) words) (λ leap words.
    Some (record { year = year; start = start; lengths = lengths; leap = leap }, words)))))

-- `YEAR START LENGTHS`
unfoldable pub lunar_read : List (List ℕ) → Read YearRow
lunar_read words =
    and_then (next_word int_of words) (λ year words.
    and_then (next_word int_of words) (λ start words.
    and_then (next_word (lengths_of 12) words) (λ lengths words.
    Some (record { year = year; start = start; lengths = lengths; leap = 0 }, words))))

-- `YEAR MONTH DAY CODE INDEX`
unfoldable pub era_read : List (List ℕ) → Read EraRow
era_read words =
    and_then (next_word int_of words) (λ year words.
    and_then (next_word byte_of words) (λ month words.
    and_then (next_word byte_of words) (λ day words.
    and_then (next_word code_of words) (λ code words.
    and_then (next_word byte_of words) (λ index words.
    Some (record { start = record { year = year; month = month; day = day }; code = code; index = index }, words))))))

-- what stands behind the word for the kind
abbrev pub parts_read : RowKind → List (List ℕ) → Read Row
parts_read kind.China words = and_then (lunisolar_read words) (λ row words. Some (China row, words))
parts_read kind.Korea words = and_then (lunisolar_read words) (λ row words. Some (Korea row, words))
parts_read kind.Hijri words = and_then (lunar_read words) (λ row words. Some (Hijri row, words))
parts_read kind.Persian words = and_then (next_word int_of words) (λ year words. Some (Persian year, words))
parts_read kind.Era words = and_then (era_read words) (λ row words. Some (Era row, words))

-- what was read, where no word is left
abbrev pub at_end : {T : Type 0} → T → List (List ℕ) → Option T
at_end x [] = Some x
at_end x (word ∷ words) = None

-- `row china YEAR START LENGTHS LEAP`, the same with `korea`, `row hijri YEAR START LENGTHS`, `row persian YEAR`,
-- or `row era YEAR MONTH DAY CODE INDEX`
unfoldable pub row_read : List (List ℕ) → Option Row
row_read words =
    and_then (next_word (fixed_word (codes "row")) words) (λ _ words.
    and_then (next_word kind_named words) (λ kind words.
    and_then (parts_read kind words) at_end))
