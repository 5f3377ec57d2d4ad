-- The form of a row line, as one statement of all its words.
use Rattle.std.specs.Prelude.{◌≡◌, ℕ, ℤ, List, [], ◌∷◌, Some, codes}
use Rattle.word_values.specs.Numbers.{int_of, byte_of}
use Rattle.request_lines.specs.Rows.{YearRow, EraRow, Row, China, Korea, Hijri, Persian, Era, lengths_of, leap_of, code_of, row_read}

-- `YEAR START LENGTHS LEAP`
pub record IsLunisolar (words : List (List ℕ)) (r : YearRow) : Type 0 where
  pub year : List ℕ
  pub start : List ℕ
  pub lengths : List ℕ
  pub leap : List ℕ
  pub form : words ≡ year ∷ start ∷ lengths ∷ leap ∷ []
  pub says_year : int_of year ≡ Some r.year
  pub says_start : int_of start ≡ Some r.start
  pub says_lengths : lengths_of 13 lengths ≡ Some r.lengths
  pub says_leap : leap_of r.lengths leap ≡ Some r.leap

-- `YEAR START LENGTHS`
pub record IsLunar (words : List (List ℕ)) (r : YearRow) : Type 0 where
  pub year : List ℕ
  pub start : List ℕ
  pub lengths : List ℕ
  pub form : words ≡ year ∷ start ∷ lengths ∷ []
  pub says_year : int_of year ≡ Some r.year
  pub says_start : int_of start ≡ Some r.start
  pub says_lengths : lengths_of 12 lengths ≡ Some r.lengths
  pub no_leap : r.leap ≡ 0

-- `YEAR`
pub record IsYear (words : List (List ℕ)) (y : ℤ) : Type 0 where
  pub year : List ℕ
  pub form : words ≡ year ∷ []
  pub says_year : int_of year ≡ Some y

-- `YEAR MONTH DAY CODE INDEX`
pub record IsEra (words : List (List ℕ)) (r : EraRow) : Type 0 where
  pub year : List ℕ
  pub month : List ℕ
  pub day : List ℕ
  pub code : List ℕ
  pub index : List ℕ
  pub form : words ≡ year ∷ month ∷ day ∷ code ∷ index ∷ []
  pub says_year : int_of year ≡ Some r.start.year
  pub says_month : byte_of month ≡ Some r.start.month
  pub says_day : byte_of day ≡ Some r.start.day
  pub says_code : code_of code ≡ Some r.code
  pub says_index : byte_of index ≡ Some r.index

-- the word for the kind of row
abbrev pub name_of : Row → List ℕ
name_of (China r) = codes "china"
name_of (Korea r) = codes "korea"
name_of (Hijri r) = codes "hijri"
name_of (Persian y) = codes "persian"
name_of (Era r) = codes "era"

-- the words behind it
abbrev pub AreParts : List (List ℕ) → Row → Type 0
AreParts words (China r) = IsLunisolar words r
AreParts words (Korea r) = IsLunisolar words r
AreParts words (Hijri r) = IsLunar words r
AreParts words (Persian y) = IsYear words y
AreParts words (Era r) = IsEra words r

-- words are of the form, and say a row
pub record IsRow (words : List (List ℕ)) (r : Row) : Type 0 where
  pub parts : List (List ℕ)
  pub form : words ≡ codes "row" ∷ name_of r ∷ parts
  pub say : AreParts parts r

-- words are read as a row exactly where they are of the form and say it
abbrev pub RowsHaveOneForm : Type 0
RowsHaveOneForm = (words : List (List ℕ)) (r : Row)
    → (row_read words ≡ Some r → IsRow words r) × (IsRow words r → row_read words ≡ Some r)
