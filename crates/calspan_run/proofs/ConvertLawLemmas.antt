-- The texts of `convert`: every input has one, no other one, and it begins with the text for each of its parts.
use Rattle.std.proofs.Common.{◌≡◌, ℕ, Bool, true, false, List, [], ◌∷◌, ◌++◌, Option, Some, None, inl, inr, refl, ◌∙◌, sym, ap, subst}
use Rattle.std.proofs.lemmas.List.{append-nil}
use Rattle.byte_io.specs.Faults.{counted_on}
use Rattle.byte_io.specs.Lines.{lines_in}
use Rattle.cal_east_asian.specs.declared.east_asian_traditional_year.EastAsianTraditionalYear.{EastAsianTraditionalYear}
use Rattle.cal_east_asian.specs.laws.SameParts as east_asian
use Rattle.cal_gregory.specs.JapaneseEraList.{ListedEra}
use Rattle.cal_hijri.specs.declared.hijri_year.HijriYear.{HijriYear}
use Rattle.cal_hijri.specs.laws.SameYears as hijri
use Rattle.request_lines.specs.Rows.{China, Era, Hijri, Korea, Persian, Row, YearRow}
use Rattle.table_rows.specs.RowLines.{Faulty, Kept, RowOutcome, TakesEras, TakesRow, TakesYear}
use Rattle.table_rows.specs.RowYears.{IsEastAsianYear, IsHijriYear, starts_of}
use Rattle.table_rows.specs.TableRows.{TableRows, contents_of, eras_of_row, no_rows, with_china, with_hijri, with_korea}
use Rattle.table_rows.proofs.InputLemmas.{lines_in-prefix}
use Rattle.table_rows.proofs.RowLineLemmas.{row_exists}
use Rattle.calspan_run.specs.BehindRows.{OverTables, RefusesTables}
use Rattle.command_line.specs.ConvertAsked.{ConvertAsked}
use Rattle.calspan_run.specs.ConvertTexts.{AtEnd, AtLine, Behind, Comment, Converts, Dated, HeadLine, RowLine, SaysConvert, SaysFrom, any_bad, head_line}
use Rattle.calspan_run.specs.Converted.{line_text}
use Rattle.calspan_run.specs.Laws.{EveryInputHas, IsUnique, PrefixesHavePrefixes}
use Rattle.calspan_run.specs.Refusals.{status_of}
use Rattle.calspan_run.specs.TableTexts.{row_refusal}
use Rattle.calspan_run.specs.TextSoFar.{lines_text}
use Rattle.calspan_run.specs.declared.status.Status.{Status}
use Rattle.calspan_run.specs.declared.status.Status.TheVariants.{Done, TableRefused}
use Rattle.calspan_run.proofs.BehindRowsLemmas.{over_exists, over_unique}
use Rattle.calspan_run.proofs.ConvertHeadLemmas.{RefusedAt}
use Rattle.calspan_run.proofs.WriterLemmas.{lines_text-append}

-- one thing becomes of a row line
module _ {Y : Type 0} (IsYear : Y → Type 0) (keep : Y → TableRows) where
  year_unique : ((y z : Y) → IsYear y → IsYear z → y ≡ z) → (a b : RowOutcome) → TakesYear IsYear keep a → TakesYear IsYear keep b → a ≡ b
  year_unique one a b (inl (y, h, e)) (inl (z, k, f)) = e ∙ (ap (λ x. Kept (keep x)) (one y z h k) ∙ sym f)
  year_unique one a b (inl (y, h, e)) (inr (none, f)) = absurd (none y h)
  year_unique one a b (inr (none, e)) (inl (y, h, f)) = absurd (none y h)
  year_unique one a b (inr (none, e)) (inr (other, f)) = e ∙ sym f

hijri_unique : (r : YearRow) (a b : HijriYear) → IsHijriYear r a → IsHijriYear r b → a ≡ b
hijri_unique r a b p q =
    hijri.year_of_starts a b (starts_of 13 r.start r.lengths) (p.number ∙ sym q.number) (p.first ∙ sym q.first) p.lengths q.lengths p.few q.few

east_asian_unique : (r : YearRow) (a b : EastAsianTraditionalYear) → IsEastAsianYear r a → IsEastAsianYear r b → a ≡ b
east_asian_unique r a b p q =
    east_asian.year_of_starts a b (starts_of 14 r.start r.lengths) (p.number ∙ sym q.number) (p.first ∙ sym q.first) (p.leap ∙ sym q.leap) p.lengths q.lengths p.few q.few

eras_unique : (rows : TableRows) (before eras : Option (List ListedEra)) (a b : RowOutcome) → TakesEras rows before eras a → TakesEras rows before eras b → a ≡ b
eras_unique rows (Some before) eras a b e f = e ∙ sym f
eras_unique rows None None a b e f = e ∙ sym f
eras_unique rows None (Some eras) a b e f = e ∙ sym f

row_unique : (rows : TableRows) (row : Option Row) (a b : RowOutcome) → TakesRow rows row a → TakesRow rows row b → a ≡ b
row_unique rows None a b e f = e ∙ sym f
row_unique rows (Some (China r)) a b x y = year_unique (IsEastAsianYear r) (with_china rows) (east_asian_unique r) a b x y
row_unique rows (Some (Korea r)) a b x y = year_unique (IsEastAsianYear r) (with_korea rows) (east_asian_unique r) a b x y
row_unique rows (Some (Hijri r)) a b x y = year_unique (IsHijriYear r) (with_hijri rows) (hijri_unique r) a b x y
row_unique rows (Some (Persian y)) a b e f = e ∙ sym f
row_unique rows (Some (Era r)) a b x y = eras_unique rows rows.eras (eras_of_row r) a b x y

-- the text and the status at a line, which has this number, behind these rows
abbrev At : ConvertAsked → Bool → TableRows → ℕ → List ℕ → List (List ℕ) → HeadLine → List ℕ → Status → Type 0
At a whole rows n line more x text status =
    AtLine x rows (λ next. SaysFrom a whole next (counted_on n) more text status) (RefusedAt n text status) (OverTables (Converts a (line ∷ more)) rows text status)

-- there is a text
module _ (a : ConvertAsked) (whole : Bool) (rows : TableRows) where
  end_exists : (whole : Bool) → (text : List ℕ) × (status : Status) × AtEnd whole rows text status
  end_exists true = over_exists (λ tables t s. (t ≡ []) × (s ≡ Done)) rows (λ accepted. ([], Done, (refl, refl)))
  end_exists false = ([], Done, (refl, refl))

  module _ (n : ℕ) (line : List ℕ) (more : List (List ℕ)) (on : (next : TableRows) → (text : List ℕ) × (status : Status) × SaysFrom a whole next (counted_on n) more text status) where
    row_says : (row : Option Row) (outcome : RowOutcome) → TakesRow rows row outcome → (text : List ℕ) × (status : Status) × At a whole rows n line more (RowLine row) text status
    row_says row (Kept next) takes = let (text, status, says) = on next in (text, status, (Kept next, takes, says))
    row_says row (Faulty why) takes = (row_refusal n why, TableRefused, (Faulty why, takes, (refl, refl)))

    line_exists : (x : HeadLine) → (text : List ℕ) × (status : Status) × At a whole rows n line more x text status
    line_exists Comment = on rows
    line_exists (RowLine row) = let (outcome, takes) = row_exists rows row in row_says row outcome takes
    line_exists Dated = over_exists (Converts a (line ∷ more)) rows (λ accepted.
        let tables = contents_of rows in
        (lines_text (line_text a tables) (line ∷ more), status_of (any_bad a tables false (line ∷ more)), (refl, refl)))

says_exists : (a : ConvertAsked) (whole : Bool) (lines : List (List ℕ)) (rows : TableRows) (n : ℕ) → (text : List ℕ) × (status : Status) × SaysFrom a whole rows n lines text status
says_exists a whole [] rows n = end_exists a whole rows whole
says_exists a whole (line ∷ more) rows n = line_exists a whole rows n line more (λ next. says_exists a whole more next (counted_on n)) (head_line line)

pub conversions_exist : (a : ConvertAsked) → EveryInputHas (SaysConvert a)
conversions_exist a bytes whole = says_exists a whole (lines_in bytes whole) no_rows 1

-- and there is no other one
module _ (a : ConvertAsked) (whole : Bool) (rows : TableRows) (x y : List ℕ) (s t : Status) where
  end_unique : (whole : Bool) → AtEnd whole rows x s → AtEnd whole rows y t → (x ≡ y) × (s ≡ t)
  end_unique true h k = over_unique (λ tables t s. (t ≡ []) × (s ≡ Done)) (λ tables u v p q (e, d) (f, g). (e ∙ sym f, d ∙ sym g)) rows x y s t h k
  end_unique false (e, d) (f, g) = (e ∙ sym f, d ∙ sym g)

  module _ (n : ℕ) (line : List ℕ) (more : List (List ℕ)) (one : (next : TableRows) → SaysFrom a whole next (counted_on n) more x s → SaysFrom a whole next (counted_on n) more y t → (x ≡ y) × (s ≡ t)) where
    abbrev After : List ℕ → Status → RowOutcome → Type 0
    After text status outcome = Behind outcome (λ next. SaysFrom a whole next (counted_on n) more text status) (RefusedAt n text status)

    after_unique : (outcome : RowOutcome) → After x s outcome → After y t outcome → (x ≡ y) × (s ≡ t)
    after_unique (Kept next) h k = one next h k
    after_unique (Faulty why) (e, d) (f, g) = (e ∙ sym f, d ∙ sym g)

    line_unique : (z : HeadLine) → At a whole rows n line more z x s → At a whole rows n line more z y t → (x ≡ y) × (s ≡ t)
    line_unique Comment h k = one rows h k
    line_unique (RowLine row) (o, takes, h) (p, takes', k) = after_unique o h (subst (After y t) (row_unique rows row p o takes' takes) k)
    line_unique Dated h k = over_unique (Converts a (line ∷ more)) (λ tables u v p q (e, d) (f, g). (e ∙ sym f, d ∙ sym g)) rows x y s t h k

says_unique : (a : ConvertAsked) (whole : Bool) (lines : List (List ℕ)) (rows : TableRows) (n : ℕ) (x y : List ℕ) (s t : Status) → SaysFrom a whole rows n lines x s → SaysFrom a whole rows n lines y t → (x ≡ y) × (s ≡ t)
says_unique a whole [] rows n x y s t h k = end_unique a whole rows x y s t whole h k
says_unique a whole (line ∷ more) rows n x y s t h k = line_unique a whole rows x y s t n line more (λ next. says_unique a whole more next (counted_on n) x y s t) (head_line line) h k

pub conversions_unique : (a : ConvertAsked) → IsUnique (SaysConvert a)
conversions_unique a bytes whole x y s t h k = says_unique a whole (lines_in bytes whole) no_rows 1 x y s t h k

-- where more lines come, their text comes behind that of the first
over_grows : (a : ConvertAsked) (rows : TableRows) (lines others : List (List ℕ)) (text : List ℕ) (status : Status) → OverTables (Converts a lines) rows text status
    → (added : List ℕ) × (next : Status) × OverTables (Converts a (lines ++ others)) rows (text ++ added) next
over_grows a rows lines others text status (inl (accepted, (e, d))) =
    let answer = line_text a (contents_of rows) in
    (lines_text answer others, status_of (any_bad a (contents_of rows) false (lines ++ others)), inl (accepted, (ap (λ z. z ++ lines_text answer others) e ∙ sym (lines_text-append answer lines others), refl)))
over_grows a rows lines others text status (inr (refuses, e)) = ([], status, inr (subst (RefusesTables rows) (sym (append-nil text)) refuses, e))

module _ (a : ConvertAsked) (whole : Bool) (rows : TableRows) (n : ℕ) (line : List ℕ) (more others : List (List ℕ)) (text : List ℕ) (status : Status)
    (on : (next : TableRows) → SaysFrom a false next (counted_on n) more text status → (added : List ℕ) × (later : Status) × SaysFrom a whole next (counted_on n) (more ++ others) (text ++ added) later) where
  row_grows : (row : Option Row) (outcome : RowOutcome) → TakesRow rows row outcome → Behind outcome (λ next. SaysFrom a false next (counted_on n) more text status) (RefusedAt n text status)
      → (added : List ℕ) × (later : Status) × At a whole rows n line (more ++ others) (RowLine row) (text ++ added) later
  row_grows row (Kept next) takes h = let (added, later, says) = on next h in (added, later, (Kept next, takes, says))
  row_grows row (Faulty why) takes (e, d) = ([], status, (Faulty why, takes, (append-nil text ∙ e, d)))

  line_grows : (z : HeadLine) → At a false rows n line more z text status → (added : List ℕ) × (later : Status) × At a whole rows n line (more ++ others) z (text ++ added) later
  line_grows Comment h = on rows h
  line_grows (RowLine row) (outcome, takes, h) = row_grows row outcome takes h
  line_grows Dated h = over_grows a rows (line ∷ more) others text status h

says_grow : (a : ConvertAsked) (whole : Bool) (lines others : List (List ℕ)) (rows : TableRows) (n : ℕ) (text : List ℕ) (status : Status) → SaysFrom a false rows n lines text status
    → (added : List ℕ) × (later : Status) × SaysFrom a whole rows n (lines ++ others) (text ++ added) later
says_grow a whole [] others rows n text status (none, e) =
    let (added, later, says) = says_exists a whole others rows n in
    (added, later, subst (λ z. SaysFrom a whole rows n others (z ++ added) later) (sym none) says)
says_grow a whole (line ∷ more) others rows n text status h =
    line_grows a whole rows n line more others text status (λ next. says_grow a whole more others next (counted_on n) text status) (head_line line) h

pub conversions_prefix : (a : ConvertAsked) → PrefixesHavePrefixes (SaysConvert a)
conversions_prefix a bytes more whole x y s t h k =
    let (others, lines) = lines_in-prefix bytes more whole in
    let (added, later, says) = says_grow a whole (lines_in bytes false) others no_rows 1 x s h in
    (added, (says_unique a whole (lines_in (bytes ++ more) whole) no_rows 1 y (x ++ added) t later k (subst (λ z. SaysFrom a whole no_rows 1 z (x ++ added) later) (sym lines) says)).0)
