-- The row lines of an input end at one place only.
use Rattle.std.proofs.Common.{◌≡◌, ℕ, ◌+◌, List, [], ◌∷◌, ◌++◌, Option, Some, None, inl, inr, length, refl, arith, ◌∙◌, sym, ap, subst}
use Rattle.cal_gregory.specs.JapaneseEraList.{ListedEra}
use Rattle.request_lines.specs.Lines.{Line, Nothing, GivesRow, Requests, RequestLine, IsLine, line_of}
use Rattle.request_lines.specs.Rows.{Row, China, Korea, Hijri, Persian, Era}
use Rattle.request_lines.proofs.LineLemmas.{line_is}
use Rattle.table_rows.specs.RowLines.{RowOutcome, Kept, Faulty, TakesYear, TakesEras, TakesRow, KeepsLine, AddRows, EndBefore, RowsEnd, WithLines, AtFaultyRow, AtRequest, EndRows}
use Rattle.table_rows.specs.RowYears.{IsHijriYear, IsEastAsianYear}
use Rattle.table_rows.specs.TableRows.{TableRows, no_rows, with_china, with_korea, with_hijri, eras_of_row}
use Rattle.table_rows.specs.declared.table.RowFault.{RowFault}
use Rattle.table_rows.proofs.RowYearLemmas.{hijri_year-unique, east_asian_year-unique}

-- one thing becomes of a row line
module _ {Y : Type 0} (IsYear : Y → Type 0) (keep : Y → TableRows) where
  year_unique : ((y z : Y) → IsYear y → IsYear z → y ≡ z) → (a b : RowOutcome) → TakesYear IsYear keep a → TakesYear IsYear keep b → a ≡ b
  year_unique one a b (inl (y, h, e)) (inl (z, k, f)) = e ∙ (ap (λ x. Kept (keep x)) (one y z h k) ∙ sym f)
  year_unique one a b (inl (y, h, e)) (inr (none, f)) = absurd (none y h)
  year_unique one a b (inr (none, e)) (inl (y, h, f)) = absurd (none y h)
  year_unique one a b (inr (none, e)) (inr (other, f)) = e ∙ sym f

eras_unique : (rows : TableRows) (before eras : Option (List ListedEra)) (a b : RowOutcome) → TakesEras rows before eras a → TakesEras rows before eras b → a ≡ b
eras_unique rows (Some before) eras a b e f = e ∙ sym f
eras_unique rows None None a b e f = e ∙ sym f
eras_unique rows None (Some eras) a b e f = e ∙ sym f

row_unique : (rows : TableRows) (row : Option Row) (a b : RowOutcome) → TakesRow rows row a → TakesRow rows row b → a ≡ b
row_unique rows None a b e f = e ∙ sym f
row_unique rows (Some (China r)) a b x y = year_unique (IsEastAsianYear r) (with_china rows) (east_asian_year-unique r) a b x y
row_unique rows (Some (Korea r)) a b x y = year_unique (IsEastAsianYear r) (with_korea rows) (east_asian_year-unique r) a b x y
row_unique rows (Some (Hijri r)) a b x y = year_unique (IsHijriYear r) (with_hijri rows) (hijri_year-unique r) a b x y
row_unique rows (Some (Persian y)) a b e f = e ∙ sym f
row_unique rows (Some (Era r)) a b x y = eras_unique rows rows.eras (eras_of_row r) a b x y

-- what a line does behind some rows: it leaves these, it is a row line that is refused, or another
data Step : Type 0 where
  Goes : RowOutcome → Step
  Asks : RequestLine → Step

abbrev Steps : Line → TableRows → Step → Type 0
Steps Nothing from step = step ≡ Goes (Kept from)
Steps (GivesRow row) from step = (outcome : RowOutcome) × TakesRow from row outcome × (step ≡ Goes outcome)
Steps (Requests request) from step = step ≡ Asks request

step_unique : (said : Line) (from : TableRows) (a b : Step) → Steps said from a → Steps said from b → a ≡ b
step_unique Nothing from a b e f = e ∙ sym f
step_unique (GivesRow row) from a b (o, x, e) (p, y, f) = e ∙ (ap Goes (row_unique from row o p x y) ∙ sym f)
step_unique (Requests request) from a b e f = e ∙ sym f

steps_as_read : (line : List ℕ) (said : Line) (from : TableRows) (step : Step) → IsLine line said → Steps said from step → Steps (line_of line) from step
steps_as_read line said from step says h = subst (λ (l : Line). Steps l from step) (line_is line said says) h

keeps_steps : (line : List ℕ) (from next : TableRows) → KeepsLine line from next → Steps (line_of line) from (Goes (Kept next))
keeps_steps line from next (inl (says, e)) = steps_as_read line Nothing from (Goes (Kept next)) says (ap (λ r. Goes (Kept r)) e)
keeps_steps line from next (inr (row, says, takes)) = steps_as_read line (GivesRow row) from (Goes (Kept next)) says (Kept next, takes, refl)

-- where the row lines end behind these rows and so many lines
record EndAfter (from : TableRows) (k : ℕ) (lines : List (List ℕ)) (rows : TableRows) (n : ℕ) (line : List ℕ) (more : List (List ℕ)) : Type 0 where
  pub before : List (List ℕ)
  pub are_rows : AddRows before from rows
  pub number : n ≡ k + length before + 1
  pub all : lines ≡ before ++ line ∷ more

abbrev EndFrom : RowsEnd → TableRows → ℕ → List (List ℕ) → TableRows → Type 0
EndFrom WithLines from k lines rows = AddRows lines from rows
EndFrom (AtFaultyRow n why) from k lines rows =
    (line : List ℕ) × (more : List (List ℕ)) × EndAfter from k lines rows n line more × (row : Option Row) × IsLine line (GivesRow row) × TakesRow rows row (Faulty why)
EndFrom (AtRequest n request others) from k lines rows =
    (line : List ℕ) × (more : List (List ℕ)) × EndAfter from k lines rows n line more × IsLine line (Requests request) × (others ≡ line ∷ more)

-- behind what the first line does
abbrev Rest : Step → RowsEnd → TableRows → ℕ → List ℕ → List (List ℕ) → TableRows → Type 0
Rest (Goes (Kept next)) end from k line more rows = EndFrom end next (k + 1) more rows
Rest (Goes (Faulty why)) end from k line more rows = (end ≡ AtFaultyRow (k + 1) why) × (rows ≡ from)
Rest (Asks request) end from k line more rows = (end ≡ AtRequest (k + 1) request (line ∷ more)) × (rows ≡ from)

abbrev Walks : RowsEnd → TableRows → ℕ → List ℕ → List (List ℕ) → TableRows → Type 0
Walks end from k line more rows = (step : Step) × Steps (line_of line) from step × Rest step end from k line more rows

heads : (a b : List ℕ) (x y : List (List ℕ)) → a ∷ x ≡ b ∷ y → a ≡ b
heads a b x y e = cc

tails : (a b : List ℕ) (x y : List (List ℕ)) → a ∷ x ≡ b ∷ y → x ≡ y
tails a b x y e = cc

not_none : (before : List (List ℕ)) (line : List ℕ) (more : List (List ℕ)) → [] ≡ before ++ line ∷ more → ⊥
not_none [] line more e = cc
not_none (b ∷ before) line more e = cc

faulty_walks : (before : List (List ℕ)) (from : TableRows) (k : ℕ) (l : List ℕ) (ls : List (List ℕ)) (rows : TableRows) (n : ℕ) (line : List ℕ) (more : List (List ℕ)) (why : RowFault) (row : Option Row)
    → AddRows before from rows → n ≡ k + length before + 1 → l ∷ ls ≡ before ++ line ∷ more → IsLine line (GivesRow row) → TakesRow rows row (Faulty why) → Walks (AtFaultyRow n why) from k l ls rows
faulty_walks [] from k l ls rows n line more why row are number all says takes =
    let here : IsLine l (GivesRow row) = subst (λ (x : List ℕ). IsLine x (GivesRow row)) (sym (heads l line ls more all)) says in
    let takes_here : TakesRow from row (Faulty why) = subst (λ (r : TableRows). TakesRow r row (Faulty why)) are takes in
    let count : n ≡ k + 1 = number ∙ omega arith in
    (Goes (Faulty why), steps_as_read l (GivesRow row) from (Goes (Faulty why)) here (Faulty why, takes_here, refl), (ap (λ x. AtFaultyRow x why) count, are))
faulty_walks (b ∷ before) from k l ls rows n line more why row (next, keeps, are) number all says takes =
    let count : n ≡ k + 1 + length before + 1 = number ∙ omega arith in (
      Goes (Kept next),
      keeps_steps l from next (subst (λ (x : List ℕ). KeepsLine x from next) (sym (heads l b ls (before ++ line ∷ more) all)) keeps),
      (line, more, record { before = before; are_rows = are; number = count; all = tails l b ls (before ++ line ∷ more) all }, row, says, takes),
    )

request_walks : (before : List (List ℕ)) (from : TableRows) (k : ℕ) (l : List ℕ) (ls : List (List ℕ)) (rows : TableRows) (n : ℕ) (line : List ℕ) (more others : List (List ℕ)) (request : RequestLine)
    → AddRows before from rows → n ≡ k + length before + 1 → l ∷ ls ≡ before ++ line ∷ more → IsLine line (Requests request) → others ≡ line ∷ more → Walks (AtRequest n request others) from k l ls rows
request_walks [] from k l ls rows n line more others request are number all says same =
    let here : IsLine l (Requests request) = subst (λ (x : List ℕ). IsLine x (Requests request)) (sym (heads l line ls more all)) says in
    let count : n ≡ k + 1 = number ∙ omega arith in
    (Asks request, steps_as_read l (Requests request) from (Asks request) here refl, (ap (λ x. AtRequest x request others) count ∙ ap (AtRequest (k + 1) request) (same ∙ sym all), are))
request_walks (b ∷ before) from k l ls rows n line more others request (next, keeps, are) number all says same =
    let count : n ≡ k + 1 + length before + 1 = number ∙ omega arith in (
      Goes (Kept next),
      keeps_steps l from next (subst (λ (x : List ℕ). KeepsLine x from next) (sym (heads l b ls (before ++ line ∷ more) all)) keeps),
      (line, more, record { before = before; are_rows = are; number = count; all = tails l b ls (before ++ line ∷ more) all }, says, same),
    )

walks : (end : RowsEnd) (from : TableRows) (k : ℕ) (l : List ℕ) (ls : List (List ℕ)) (rows : TableRows) → EndFrom end from k (l ∷ ls) rows → Walks end from k l ls rows
walks WithLines from k l ls rows (next, keeps, are) = (Goes (Kept next), keeps_steps l from next keeps, are)
walks (AtFaultyRow n why) from k l ls rows (line, more, h, row, says, takes) = faulty_walks h.before from k l ls rows n line more why row h.are_rows h.number h.all says takes
walks (AtRequest n request others) from k l ls rows (line, more, h, says, same) = request_walks h.before from k l ls rows n line more others request h.are_rows h.number h.all says same

ends_at_once : (end : RowsEnd) (from : TableRows) (k : ℕ) (rows : TableRows) → EndFrom end from k [] rows → (end ≡ WithLines) × (rows ≡ from)
ends_at_once WithLines from k rows e = (refl, e)
ends_at_once (AtFaultyRow n why) from k rows (line, more, h, row, says, takes) = absurd (not_none h.before line more h.all)
ends_at_once (AtRequest n request others) from k rows (line, more, h, says, same) = absurd (not_none h.before line more h.all)

abbrev OneEnd : List (List ℕ) → Type 0
OneEnd lines = (from : TableRows) (k : ℕ) (d e : RowsEnd) (r q : TableRows) → EndFrom d from k lines r → EndFrom e from k lines q → (d ≡ e) × (r ≡ q)

rest_unique : (step : Step) (from : TableRows) (k : ℕ) (line : List ℕ) (more : List (List ℕ)) (d e : RowsEnd) (r q : TableRows) → OneEnd more → Rest step d from k line more r → Rest step e from k line more q → (d ≡ e) × (r ≡ q)
rest_unique (Goes (Kept next)) from k line more d e r q one h g = one next (k + 1) d e r q h g
rest_unique (Goes (Faulty why)) from k line more d e r q one (h, x) (g, y) = (h ∙ sym g, x ∙ sym y)
rest_unique (Asks request) from k line more d e r q one (h, x) (g, y) = (h ∙ sym g, x ∙ sym y)

one_end : (lines : List (List ℕ)) → OneEnd lines
one_end [] from k d e r q h g =
    let (x, s) = ends_at_once d from k r h in
    let (y, t) = ends_at_once e from k q g in
    (x ∙ sym y, s ∙ sym t)
one_end (line ∷ more) from k d e r q h g =
    let (a, x, rest) = walks d from k line more r h in
    let (b, y, other) = walks e from k line more q g in
    let same : b ≡ a = step_unique (line_of line) from b a y x in
    rest_unique a from k line more d e r q (one_end more) rest (subst (λ (s : Step). Rest s e from k line more q) same other)

end_after : (lines : List (List ℕ)) (rows : TableRows) (n : ℕ) (line : List ℕ) (more : List (List ℕ)) → EndBefore lines rows n line more → EndAfter no_rows 0 lines rows n line more
end_after lines rows n line more h = record { before = h.before; are_rows = h.are_rows; number = h.number ∙ omega arith; all = h.all }

end_from : (end : RowsEnd) (lines : List (List ℕ)) (rows : TableRows) → EndRows end lines rows → EndFrom end no_rows 0 lines rows
end_from WithLines lines rows are = are
end_from (AtFaultyRow n why) lines rows (line, more, h, row, says, takes) = (line, more, end_after lines rows n line more h, row, says, takes)
end_from (AtRequest n request others) lines rows (line, more, h, says, same) = (line, more, end_after lines rows n line more h, says, same)

-- the row lines give the same rows and end at the same place
pub rows_end-unique : (lines : List (List ℕ)) (d e : RowsEnd) (r q : TableRows) → EndRows d lines r → EndRows e lines q → (d ≡ e) × (r ≡ q)
rows_end-unique lines d e r q h g = one_end lines no_rows 0 d e r q (end_from d lines r h) (end_from e lines q g)
