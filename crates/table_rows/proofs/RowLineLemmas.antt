-- The row lines of an input end somewhere, and at one place only.
use Rattle.std.proofs.Common.{◌≡◌, ℕ, ◌+◌, List, [], ◌∷◌, ◌++◌, Option, Some, None, ◌⊎◌, inl, inr, length, refl, ◌∙◌, ap}
use Rattle.std.proofs.lemmas.List.{append_assoc}
use Rattle.cal_gregory.specs.JapaneseEraList.{ListedEra}
use Rattle.request_lines.specs.Lines.{Line, Nothing, GivesRow, Requests, RequestLine, IsLine, line_of}
use Rattle.request_lines.specs.Rows.{Row, China, Korea, Hijri, Persian, Era}
use Rattle.request_lines.proofs.LineLemmas.{line_says}
use Rattle.table_rows.specs.RowLines.{RowOutcome, Kept, Faulty, TakesYear, TakesEras, TakesRow, KeepsLine, AddRows, EndBefore, RowsEnd, WithLines, AtFaultyRow, AtRequest, EndRows}
use Rattle.table_rows.specs.RowYears.{IsHijriYear, IsEastAsianYear}
use Rattle.table_rows.specs.TableRows.{TableRows, no_rows, with_china, with_korea, with_hijri, with_persian, with_eras, eras_of_row}
use Rattle.table_rows.specs.declared.table.RowFault.{RowFault}
use Rattle.table_rows.specs.declared.table.RowFault.TheVariants.{Syntax, Range}
use Rattle.table_rows.proofs.RowYearLemmas.{hijri_year-decided, east_asian_year-decided}

-- a row's year is kept, or it is out of range
module _ {Y : Type 0} (IsYear : Y → Type 0) (keep : Y → TableRows) where
  year_exists : ((y : Y) × IsYear y) ⊎ ((y : Y) → IsYear y → ⊥) → (outcome : RowOutcome) × TakesYear IsYear keep outcome
  year_exists (inl (y, is)) = (Kept (keep y), inl (y, is, refl))
  year_exists (inr none) = (Faulty Range, inr (none, refl))

eras_exist : (rows : TableRows) (before eras : Option (List ListedEra)) → (outcome : RowOutcome) × TakesEras rows before eras outcome
eras_exist rows (Some before) eras = (Faulty Syntax, refl)
eras_exist rows None None = (Faulty Range, refl)
eras_exist rows None (Some eras) = (Kept (with_eras rows eras), refl)

-- something becomes of each row line
pub row_exists : (rows : TableRows) (row : Option Row) → (outcome : RowOutcome) × TakesRow rows row outcome
row_exists rows None = (Faulty Syntax, refl)
row_exists rows (Some (China r)) = year_exists (IsEastAsianYear r) (with_china rows) (east_asian_year-decided r)
row_exists rows (Some (Korea r)) = year_exists (IsEastAsianYear r) (with_korea rows) (east_asian_year-decided r)
row_exists rows (Some (Hijri r)) = year_exists (IsHijriYear r) (with_hijri rows) (hijri_year-decided r)
row_exists rows (Some (Persian y)) = (Kept (with_persian rows y), refl)
row_exists rows (Some (Era r)) = eras_exist rows rows.eras (eras_of_row r)

-- a line at which the row lines end
abbrev Ends : List ℕ → TableRows → Type 0
Ends line rows = ((row : Option Row) × (why : RowFault) × IsLine line (GivesRow row) × TakesRow rows row (Faulty why)) ⊎ ((request : RequestLine) × IsLine line (Requests request))

-- such a line among others, and the rows before it
record Found (from : TableRows) (lines : List (List ℕ)) : Type 0 where
  pub rows : TableRows
  pub before : List (List ℕ)
  pub line : List ℕ
  pub more : List (List ℕ)
  pub are_rows : AddRows before from rows
  pub all : lines ≡ before ++ line ∷ more
  pub ends : Ends line rows

abbrev Looked : TableRows → List (List ℕ) → Type 0
Looked from lines = ((rows : TableRows) × AddRows lines from rows) ⊎ Found from lines

further : (line : List ℕ) (more : List (List ℕ)) (from next : TableRows) → KeepsLine line from next → Looked next more → Looked from (line ∷ more)
further line more from next keeps (inl (rows, are)) = inl (rows, (next, keeps, are))
further line more from next keeps (inr f) = inr (record {
  rows = f.rows;
  before = line ∷ f.before;
  line = f.line;
  more = f.more;
  are_rows = (next, keeps, f.are_rows);
  all = ap (λ t. line ∷ t) f.all;
  ends = f.ends;
})

ends_here : (line : List ℕ) (more : List (List ℕ)) (from : TableRows) → Ends line from → Looked from (line ∷ more)
ends_here line more from ends = inr (record { rows = from; before = []; line = line; more = more; are_rows = refl; all = refl; ends = ends })

by_row : (line : List ℕ) (more : List (List ℕ)) (from : TableRows) (row : Option Row) → ((next : TableRows) → Looked next more) → IsLine line (GivesRow row) → (outcome : RowOutcome) → TakesRow from row outcome → Looked from (line ∷ more)
by_row line more from row rest says (Kept next) takes = further line more from next (inr (row, says, takes)) (rest next)
by_row line more from row rest says (Faulty why) takes = ends_here line more from (inl (row, why, says, takes))

by_line : (line : List ℕ) (more : List (List ℕ)) (from : TableRows) → ((next : TableRows) → Looked next more) → (said : Line) → IsLine line said → Looked from (line ∷ more)
by_line line more from rest Nothing says = further line more from from (inl (says, refl)) (rest from)
by_line line more from rest (GivesRow row) says = let (outcome, takes) = row_exists from row in by_row line more from row rest says outcome takes
by_line line more from rest (Requests request) says = ends_here line more from (inr (request, says))

looked : (lines : List (List ℕ)) (from : TableRows) → Looked from lines
looked [] from = inl (from, refl)
looked (line ∷ more) from = by_line line more from (looked more) (line_of line) (line_says line)

-- the row lines end with the lines, or at one of them
pub rows_end : (lines : List (List ℕ)) → (end : RowsEnd) × (rows : TableRows) × EndRows end lines rows
rows_end lines = by (looked lines no_rows)
  where
    end_before : (f : Found no_rows lines) → EndBefore lines f.rows (length f.before + 1) f.line f.more
    end_before f = record { before = f.before; are_rows = f.are_rows; number = refl; all = f.all }

    at : (f : Found no_rows lines) → Ends f.line f.rows → (end : RowsEnd) × (rows : TableRows) × EndRows end lines rows
    at f (inl (row, why, says, takes)) = (AtFaultyRow (length f.before + 1) why, f.rows, (f.line, f.more, end_before f, row, says, takes))
    at f (inr (request, says)) = (AtRequest (length f.before + 1) request (f.line ∷ f.more), f.rows, (f.line, f.more, end_before f, says, refl))

    by : Looked no_rows lines → (end : RowsEnd) × (rows : TableRows) × EndRows end lines rows
    by (inl (rows, are)) = (WithLines, rows, are)
    by (inr f) = at f f.ends

-- they end at the same line where more lines come
pub end_before : (lines more : List (List ℕ)) (rows : TableRows) (n : ℕ) (line : List ℕ) (others : List (List ℕ)) → EndBefore lines rows n line others → EndBefore (lines ++ more) rows n line (others ++ more)
end_before lines more rows n line others h = record {
  before = h.before;
  are_rows = h.are_rows;
  number = h.number;
  all = ap (λ t. t ++ more) h.all ∙ append_assoc h.before (line ∷ others) more;
}
