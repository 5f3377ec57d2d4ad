-- Row lines with a fault are those that are refused.
use Rattle.std.proofs.Common.{◌≡◌, ℕ, ◌+◌, Bool, true, false, cond, List, [], ◌∷◌, ◌++◌, length, Option, Some, None, MatchOption, inl, inr, refl, sym, ap, subst, ◌∙◌, codes, pos}
use Rattle.std.specs.Option.{option_and_then, option_map}
use Rattle.std.specs.Str.Lines.{strip_carriage_return}
use Rattle.std.specs.Prelude.{int_lt, nat_lt}
use Rattle.cal_east_asian.specs.declared.east_asian_traditional_year.EastAsianTraditionalYear.{EastAsianTraditionalYear}
use Rattle.cal_gregory.specs.JapaneseEraList.{ListedEra}
use Rattle.cal_hijri.specs.declared.hijri_year.HijriYear.{HijriYear}
use Rattle.line_faults.specs.Faults.{first_fault}
use Rattle.line_faults.specs.declared.faults.LineFault.{LineFault}
use Rattle.request_lines.specs.Lines.{GivesRow, IsLine, Line, Nothing, RequestLine, Requests, is_row, is_silent, line_of}
use Rattle.request_lines.specs.RowForms.{IsRow}
use Rattle.request_lines.specs.Rows.{EraRow, Row, YearRow, China, Korea, Hijri, Persian, Era, row_read}
use Rattle.request_lines.specs.Words.{words_of}
use Rattle.request_lines.proofs.LineLemmas.{line_is}
use Rattle.table_rows.specs.RowLines.{AddRows, AtFaultyRow, AtRequest, EndRows, Faulty, KeepsLine, Kept, RowOutcome, RowsEnd, TakesEras, TakesRow, TakesYear, WithLines}
use Rattle.table_rows.specs.RowYears.{IsEastAsianYear, IsHijriYear}
use Rattle.table_rows.specs.TableRows.{TableRows, eras_of_row, no_rows, with_china, with_eras, with_hijri, with_korea, with_persian}
use Rattle.table_rows.specs.declared.table.RowFault.{RowFault}
use Rattle.table_rows.specs.declared.table.RowFault.TheVariants.{Syntax, Range}
use Rattle.row_faults.specs.RowFaults.{era_fault, first_wrong, hijri_fault, lunisolar_fault, row_fault}
use Rattle.row_faults.specs.Stages.{after_era, after_line, after_lines, after_row, after_said, line_fault, row_line_fault, said_fault}
use Rattle.row_faults.specs.Refusals.{Agrees, AgreesAt, EndsAgree, Exists, FirstFaultyRow, FirstRequest, HaveNoFault, IsStageOf, RowLinesAgree, refusal_of, refused_as}
use Rattle.row_faults.specs.declared.allowed.Allowed.{Allowed}
use Rattle.row_faults.specs.declared.allowed.Allowed.TheVariants as allowed
use Rattle.row_faults.specs.declared.faults.Fault.{Fault}
use Rattle.row_faults.specs.declared.faults.Fault.TheVariants.{Malformed, Misplaced}
use Rattle.row_faults.specs.declared.stages.Stage.{Stage}
use Rattle.row_faults.specs.declared.stages.Stage.TheVariants.{Rows, RowsWithEra, Ended}
use Rattle.row_faults.proofs.FormLemmas.{HasFault, first_is_row, form_is, row_malformed, row_well_formed, says_row}
use Rattle.row_faults.proofs.YearLemmas.{era_words, faults_exact, hijri_words, lunisolar_words}

-- the numbers of a row are out of range
abbrev AreRanges : List (Bool × Allowed) → Type 0
AreRanges [] = Unit {0}
AreRanges ((is_right, allowed) ∷ words) = (refusal_of allowed ≡ Range) × AreRanges words

wrong_range : (words : List (Bool × Allowed)) → AreRanges words → (allowed : Allowed) → first_wrong words ≡ Some allowed → refusal_of allowed ≡ Range
wrong_range [] all allowed e = cc
wrong_range ((is_right, here) ∷ words) all allowed e = by (wrong_range words all.1 allowed) is_right e
  where
    by : (first_wrong words ≡ Some allowed → refusal_of allowed ≡ Range) → (t : Bool) → cond t (first_wrong words) (Some here) ≡ Some allowed
        → refusal_of allowed ≡ Range
    by others true e = others e
    by others false e = let same : here ≡ allowed = cc in subst (λ a. refusal_of a ≡ Range) same all.0

-- a row's fault is one of its numbers
row_range : (r : Row) (allowed : Allowed) → row_fault r ≡ Some allowed → refusal_of allowed ≡ Range
row_range (China r) allowed e = wrong_range (lunisolar_words r) (refl, (refl, (refl, tt))) allowed e
row_range (Korea r) allowed e = wrong_range (lunisolar_words r) (refl, (refl, (refl, tt))) allowed e
row_range (Hijri r) allowed e = wrong_range (hijri_words r) (refl, (refl, tt)) allowed e
row_range (Persian y) allowed e = cc
row_range (Era r) allowed e = by (int_lt r.start.year (pos 2026)) e
  where
    by : (t : Bool) → cond t None (first_wrong (era_words r)) ≡ Some allowed → refusal_of allowed ≡ Range
    by true e = cc
    by false e = wrong_range (era_words r) (refl, (refl, (refl, (refl, tt)))) allowed e

-- what is so of a row with this fault, and of its outcome
abbrev AgreesBy : RowOutcome → Stage → Option Allowed → Type 0
AgreesBy outcome after fault = Agrees outcome after (option_map Misplaced fault)

-- a year is kept, or refused
year_agrees : {Y : Type 0} (IsYear : Y → Type 0) (keep : Y → TableRows) (after : Stage) (outcome : RowOutcome) (fault : Option Allowed)
    → ((y : Y) → IsStageOf after (keep y).eras) → MatchOption fault ((y : Y) × IsYear y) (λ allowed. (y : Y) × IsYear y → ⊥)
    → ((allowed : Allowed) → fault ≡ Some allowed → refusal_of allowed ≡ Range) → TakesYear IsYear keep outcome → AgreesBy outcome after fault
year_agrees IsYear keep after outcome None stands exact range (inl (y, is, e)) =
    subst (λ o. AgreesBy o after None) (sym e) (refl, stands y)
year_agrees IsYear keep after outcome (Some allowed) stands exact range (inl (y, is, e)) = absurd (exact (y, is))
year_agrees IsYear keep after outcome None stands exact range (inr (none, e)) = absurd (none exact.0 exact.1)
year_agrees IsYear keep after outcome (Some allowed) stands exact range (inr (none, e)) =
    subst (λ o. AgreesBy o after (Some allowed)) (sym e) (ap Some (range allowed refl))

-- the first eras are kept, or refused
first_eras : (rows : TableRows) (outcome : RowOutcome) (fault : Option Allowed) (eras : Option (List ListedEra))
    → MatchOption fault ((l : List ListedEra) × (eras ≡ Some l)) (λ allowed. (l : List ListedEra) × (eras ≡ Some l) → ⊥)
    → ((allowed : Allowed) → fault ≡ Some allowed → refusal_of allowed ≡ Range) → TakesEras rows None eras outcome
    → AgreesBy outcome (after_era fault) fault
first_eras rows outcome None None exact range e = let none = exact.1 in cc
first_eras rows outcome None (Some eras) exact range e = subst (λ o. AgreesBy o RowsWithEra None) (sym e) (refl, tt)
first_eras rows outcome (Some allowed) None exact range e = subst (λ o. AgreesBy o Rows (Some allowed)) (sym e) (ap Some (range allowed refl))
first_eras rows outcome (Some allowed) (Some eras) exact range e = absurd (exact (eras, refl))

eras_agree : (rows : TableRows) (r : EraRow) (stage : Stage) (before : Option (List ListedEra)) (outcome : RowOutcome)
    → MatchOption (era_fault r) (Exists (Era r)) (λ allowed. Exists (Era r) → ⊥) → IsStageOf stage before → TakesEras rows before (eras_of_row r) outcome
    → Agrees outcome (after_row stage (Some (Era r))) (row_line_fault stage (Some (Era r)) None)
eras_agree rows r Rows None outcome exact stands takes = first_eras rows outcome (era_fault r) (eras_of_row r) exact (row_range (Era r)) takes
eras_agree rows r Rows (Some eras) outcome exact stands takes = absurd stands
eras_agree rows r RowsWithEra None outcome exact stands takes = absurd stands
eras_agree rows r RowsWithEra (Some eras) outcome exact stands takes =
    subst (λ o. Agrees o RowsWithEra (Some (Misplaced allowed.YearTable))) (sym takes) refl
eras_agree rows r Ended before outcome exact stands takes = absurd stands

-- a well-formed row
row_agrees : (words : List (List ℕ)) (r : Row) (rows : TableRows) (stage : Stage) (outcome : RowOutcome) → IsRow words r → IsStageOf stage rows.eras
    → TakesRow rows (Some r) outcome → Agrees outcome (after_row stage (Some r)) (row_line_fault stage (Some r) None)
row_agrees words (China r) rows Rows outcome is stands takes =
    year_agrees (IsEastAsianYear r) (with_china rows) Rows outcome (lunisolar_fault r) (λ y. stands) (faults_exact words (China r) is) (row_range (China r)) takes
row_agrees words (China r) rows RowsWithEra outcome is stands takes =
    year_agrees (IsEastAsianYear r) (with_china rows) RowsWithEra outcome (lunisolar_fault r) (λ y. stands) (faults_exact words (China r) is) (row_range (China r)) takes
row_agrees words (Korea r) rows Rows outcome is stands takes =
    year_agrees (IsEastAsianYear r) (with_korea rows) Rows outcome (lunisolar_fault r) (λ y. stands) (faults_exact words (Korea r) is) (row_range (Korea r)) takes
row_agrees words (Korea r) rows RowsWithEra outcome is stands takes =
    year_agrees (IsEastAsianYear r) (with_korea rows) RowsWithEra outcome (lunisolar_fault r) (λ y. stands) (faults_exact words (Korea r) is) (row_range (Korea r)) takes
row_agrees words (Hijri r) rows Rows outcome is stands takes =
    year_agrees (IsHijriYear r) (with_hijri rows) Rows outcome (hijri_fault r) (λ y. stands) (faults_exact words (Hijri r) is) (row_range (Hijri r)) takes
row_agrees words (Hijri r) rows RowsWithEra outcome is stands takes =
    year_agrees (IsHijriYear r) (with_hijri rows) RowsWithEra outcome (hijri_fault r) (λ y. stands) (faults_exact words (Hijri r) is) (row_range (Hijri r)) takes
row_agrees words (Persian y) rows Rows outcome is stands takes = subst (λ o. Agrees o Rows None) (sym takes) (refl, stands)
row_agrees words (Persian y) rows RowsWithEra outcome is stands takes = subst (λ o. Agrees o RowsWithEra None) (sym takes) (refl, stands)
row_agrees words (Era r) rows Rows outcome is stands takes = eras_agree rows r Rows rows.eras outcome (faults_exact words (Era r) is) stands takes
row_agrees words (Era r) rows RowsWithEra outcome is stands takes = eras_agree rows r RowsWithEra rows.eras outcome (faults_exact words (Era r) is) stands takes
row_agrees words r rows Ended outcome is stands takes = absurd stands

-- a malformed row line is refused
malformed_agrees : (rows : TableRows) (stage : Stage) (outcome : RowOutcome) (fault : LineFault) → IsStageOf stage rows.eras → outcome ≡ Faulty Syntax
    → Agrees outcome (after_row stage None) (row_line_fault stage None (Some fault))
malformed_agrees rows Rows outcome fault stands e = subst (λ o. Agrees o Rows (Some (Malformed fault))) (sym e) refl
malformed_agrees rows RowsWithEra outcome fault stands e = subst (λ o. Agrees o RowsWithEra (Some (Malformed fault))) (sym e) refl
malformed_agrees rows Ended outcome fault stands e = absurd stands

-- any row line
words_agree : (words rest : List (List ℕ)) (row : Option Row) (rows : TableRows) (stage : Stage) (outcome : RowOutcome) → words ≡ codes "row" ∷ rest
    → row ≡ row_read words → IsStageOf stage rows.eras → TakesRow rows row outcome → Agrees outcome (after_row stage row) (row_line_fault stage row (first_fault words))
words_agree words rest None rows stage outcome first read stands takes =
    let (fault, found) = row_malformed words rest first (sym read) in
    subst (λ f. Agrees outcome (after_row stage None) (row_line_fault stage None f)) (sym found) (malformed_agrees rows stage outcome fault stands takes)
words_agree words rest (Some r) rows stage outcome first read stands takes =
    subst (λ f. Agrees outcome (after_row stage (Some r)) (row_line_fault stage (Some r) f)) (sym (row_well_formed words r (sym read)))
    (row_agrees words r rows stage outcome (form_is words r (sym read)) stands takes)

pub row_lines_agree : RowLinesAgree
row_lines_agree line row rows stage outcome says stands takes =
    let text = strip_carriage_return line in
    let (is, read) = says_row text row (is_silent line) (nat_lt 512 (length line)) (is_row text) says in
    let (rest, first) = first_is_row text is in
    subst (λ (said : Line). Agrees outcome (after_said said stage) (said_fault said stage (words_of text))) (line_is line (GivesRow row) says)
    (words_agree (words_of text) rest row rows stage outcome first read stands takes)

-- a line that leaves the rows, or adds one
module _ (stage : Stage) (line : List ℕ) where
  abbrev Stands : TableRows → Type 0
  Stands next = (line_fault stage line ≡ None) × IsStageOf (after_line stage line) next.eras

  keeps : (rows next : TableRows) → IsStageOf stage rows.eras → KeepsLine line rows next → Stands next
  keeps rows next stands (inl (says, same)) =
      subst Stands (sym same)
      (subst (λ (said : Line). (said_fault said stage (words_of (strip_carriage_return line)) ≡ None) × IsStageOf (after_said said stage) rows.eras) (line_is line Nothing says) (refl, stands))
  keeps rows next stands (inr (row, says, takes)) = row_lines_agree line row rows stage (Kept next) says stands takes

rows_agree : (lines : List (List ℕ)) (stage : Stage) (rows end : TableRows) → IsStageOf stage rows.eras → AddRows lines rows end
    → HaveNoFault stage lines × IsStageOf (after_lines stage lines) end.eras
rows_agree [] stage rows end stands e = (tt, subst (λ (r : TableRows). IsStageOf stage r.eras) (sym e) stands)
rows_agree (line ∷ lines) stage rows end stands (next, here, more) =
    let (none, after) = keeps stage line rows next stands here in
    let (others, behind) = rows_agree lines (after_line stage line) next end after more in
    ((none, others), behind)

behind_more : (lines : List (List ℕ)) (stage : Stage) (line : List ℕ) → after_lines stage (lines ++ line ∷ []) ≡ after_line (after_lines stage lines) line
behind_more [] stage line = refl
behind_more (first ∷ lines) stage line = behind_more lines (after_line stage first) line

pub ends_agree : EndsAgree
ends_agree lines WithLines rows ends = (rows_agree lines Rows no_rows rows tt ends).0
ends_agree lines (AtFaultyRow n why) rows (line, more, h, row, says, takes) =
    let (none, stands) = rows_agree h.before Rows no_rows rows tt h.are_rows in
    record {
      before = h.before;
      line = line;
      more = more;
      all = h.all;
      number = h.number;
      none = none;
      fault = row_lines_agree line row rows (after_lines Rows h.before) (Faulty why) says stands takes;
    }
ends_agree lines (AtRequest n request others) rows (line, more, h, says, same) =
    let (none, stands) = rows_agree h.before Rows no_rows rows tt h.are_rows in
    record {
      before = h.before;
      line = line;
      more = more;
      all = h.all;
      number = h.number;
      none = none;
      ended = behind_more h.before Rows line ∙ ap (λ (said : Line). after_said said (after_lines Rows h.before)) (sym (line_is line (Requests request) says));
    }
