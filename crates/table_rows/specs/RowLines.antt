-- The row lines at the head of an input, and where they end.
use Rattle.std.specs.Prelude.{◌≡◌, ℕ, ◌+◌, List, [], ◌∷◌, ◌++◌, ◌⊎◌, length, Option, Some, None}
use Rattle.cal_east_asian.specs.declared.east_asian_traditional_year.EastAsianTraditionalYear.{EastAsianTraditionalYear}
use Rattle.cal_gregory.specs.JapaneseEraList.{ListedEra}
use Rattle.cal_hijri.specs.declared.hijri_year.HijriYear.{HijriYear}
use Rattle.request_lines.specs.Lines.{Nothing, GivesRow, Requests, RequestLine, IsLine}
use Rattle.request_lines.specs.Rows.{Row, China, Korea, Hijri, Persian, Era}
use Rattle.table_rows.specs.RowYears.{IsHijriYear, IsEastAsianYear}
use Rattle.table_rows.specs.TableRows.{TableRows, no_rows, with_china, with_korea, with_hijri, with_persian, with_eras, eras_of_row}
use Rattle.table_rows.specs.declared.table.RowFault.{RowFault}
use Rattle.table_rows.specs.declared.table.RowFault.TheVariants.{Syntax, Range}

-- what becomes of a row line: the rows with its own behind them, or why it is refused
pub data RowOutcome : Type 0 where
  Kept : TableRows → RowOutcome
  Faulty : RowFault → RowOutcome

-- a row whose year is found is kept, and one that has none is out of range
abbrev pub TakesYear : {Y : Type 0} → (Y → Type 0) → (Y → TableRows) → RowOutcome → Type 0
TakesYear {Y} IsYear with outcome =
    ((y : Y) × IsYear y × (outcome ≡ Kept (with y))) ⊎ (((y : Y) → IsYear y → ⊥) × (outcome ≡ Faulty Range))

-- the eras that a row names, where no row named any before
abbrev pub TakesEras : TableRows → Option (List ListedEra) → Option (List ListedEra) → RowOutcome → Type 0
TakesEras rows (Some before) eras outcome = outcome ≡ Faulty Syntax
TakesEras rows None None outcome = outcome ≡ Faulty Range
TakesEras rows None (Some eras) outcome = outcome ≡ Kept (with_eras rows eras)

-- a row line, behind some rows
abbrev pub TakesRow : TableRows → Option Row → RowOutcome → Type 0
TakesRow rows None outcome = outcome ≡ Faulty Syntax
TakesRow rows (Some (China r)) outcome = TakesYear (IsEastAsianYear r) (with_china rows) outcome
TakesRow rows (Some (Korea r)) outcome = TakesYear (IsEastAsianYear r) (with_korea rows) outcome
TakesRow rows (Some (Hijri r)) outcome = TakesYear (IsHijriYear r) (with_hijri rows) outcome
TakesRow rows (Some (Persian y)) outcome = outcome ≡ Kept (with_persian rows y)
TakesRow rows (Some (Era r)) outcome = TakesEras rows rows.eras (eras_of_row r) outcome

-- the row is one of a year, which a table keeps in memory: a malformed row, a row without a year and an era take none
abbrev pub TakesMemory : Option Row → Type 0
TakesMemory None = ⊥
TakesMemory (Some (China r)) = (y : EastAsianTraditionalYear) × IsEastAsianYear r y
TakesMemory (Some (Korea r)) = (y : EastAsianTraditionalYear) × IsEastAsianYear r y
TakesMemory (Some (Hijri r)) = (y : HijriYear) × IsHijriYear r y
TakesMemory (Some (Persian y)) = Unit {0}
TakesMemory (Some (Era r)) = ⊥

-- the line is a row line whose row takes memory
abbrev pub LineTakesMemory : List ℕ → Type 0
LineTakesMemory line = (row : Option Row) × IsLine line (GivesRow row) × TakesMemory row

-- the line gives nothing, or a row that is kept
abbrev pub KeepsLine : List ℕ → TableRows → TableRows → Type 0
KeepsLine line rows next =
    (IsLine line Nothing × (next ≡ rows))
    ⊎ ((row : Option Row) × IsLine line (GivesRow row) × TakesRow rows row (Kept next))

-- each line gives nothing, or a row that is kept behind these rows
abbrev pub AddRows : List (List ℕ) → TableRows → TableRows → Type 0
AddRows [] rows end = end ≡ rows
AddRows (line ∷ more) rows end = (next : TableRows) × KeepsLine line rows next × AddRows more next end

-- each line gives nothing, or one of these rows
abbrev pub AreRows : List (List ℕ) → TableRows → Type 0
AreRows lines rows = AddRows lines no_rows rows

-- the row lines end behind the first lines, at this one, which has this number
pub record EndBefore (lines : List (List ℕ)) (rows : TableRows) (n : ℕ) (line : List ℕ)
    (more : List (List ℕ)) : Type 0 where
  pub before : List (List ℕ)
  pub are_rows : AreRows before rows
  pub number : n ≡ length before + 1
  pub all : lines ≡ before ++ line ∷ more

-- behind row lines whose rows are kept comes one whose row takes memory
pub record RowTakesMemory (lines : List (List ℕ)) : Type 0 where
  pub rows : TableRows
  pub number : ℕ
  pub line : List ℕ
  pub more : List (List ℕ)
  pub before : EndBefore lines rows number line more
  pub takes : LineTakesMemory line

-- where the row lines of an input end: with its lines; at a row line, of this number, which is refused; or at another
-- line, of this number, with what it says and the lines from it on
pub data RowsEnd : Type 0 where
  WithLines : RowsEnd
  AtFaultyRow : ℕ → RowFault → RowsEnd
  AtRequest : ℕ → RequestLine → List (List ℕ) → RowsEnd

-- the rows that the row lines give, and where they end
abbrev pub EndRows : RowsEnd → List (List ℕ) → TableRows → Type 0
EndRows WithLines lines rows = AreRows lines rows
EndRows (AtFaultyRow n why) lines rows =
    (line : List ℕ) × (more : List (List ℕ)) × EndBefore lines rows n line more × (row : Option Row)
    × IsLine line (GivesRow row) × TakesRow rows row (Faulty why)
EndRows (AtRequest n request others) lines rows =
    (line : List ℕ) × (more : List (List ℕ)) × EndBefore lines rows n line more × IsLine line (Requests request)
    × (others ≡ line ∷ more)
