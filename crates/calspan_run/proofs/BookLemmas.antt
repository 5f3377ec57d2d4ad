-- A run of a command that reads rows and a book as a whole: what it says, and how it ends.
use Rattle.std.proofs.Common.{◌≡◌, ℕ, zero, suc, ◌==◌, ◌+◌, ◌-◌, ◌<◌, ◌≤◌, ◌⊎◌, ℤ, pos, ◌+ℤ◌, ◌-ℤ◌, Bool, true, false, cond, List, [], ◌∷◌, ◌++◌, map, filter, length, take, Option, Some, None, Result, Ok, Err, codes, ⊎_elim, inl, inr, refl, sym, ap, ap₂, subst, ◌∙◌, arith}
use Rattle.std.proofs.lemmas.Bool.{false≢true}
use Rattle.std.proofs.lemmas.Bool.Decides.{eqb_tells}
use Rattle.std.proofs.lemmas.List.{take_all, length-append}
use Rattle.std.specs.Io.KnownBytes.{Appends, IsAtEnd, Keeps}
use Rattle.csv.specs.Machine.{next_record}
use Rattle.csv.specs.Reading.{records_from, strip_bom}
use Rattle.byte_io.specs.Whole.{AreAll, StopsEarly}
use Rattle.byte_io.specs.declared.whole.ReadAllError.TheVariants as early
use Rattle.cal_days.specs.Sums.{years_up}
use Rattle.cal_holidays.specs.BookNames.{holidays_in, names_in_book}
use Rattle.cal_holidays.specs.Books.{IsBookFault, IsFirstBad, book_records}
use Rattle.cal_holidays.specs.Items.{holiday_of}
use Rattle.cal_holidays.specs.Listing.{pair_given}
use Rattle.cal_holidays.specs.Merging.{pairs_in}
use Rattle.cal_holidays.specs.Records.{record_read}
use Rattle.cal_holidays.specs.Rules.{NamedRule}
use Rattle.cal_holidays.specs.declared.book.BookError.{BookError}
use Rattle.cal_holidays.specs.declared.book.BookError.TheVariants as book
use Rattle.cal_holidays.specs.declared.merged.Holiday.{Holiday}
use Rattle.cal_tables.specs.Kinds.{TableContents}
use Rattle.command_line.specs.Asked.{HolidaysAsked}
use Rattle.calspan_run.specs.DayLines.{is_refused, is_window, list_text}
use Rattle.calspan_run.specs.Endings.{EndsWith, IsEnd, MayEnd}
use Rattle.calspan_run.specs.BookEndings.{EndsBook, EndsInput, EndsOverRows, LacksMemory}
use Rattle.calspan_run.specs.HolidayLines.{book_read, holiday_line, holidays_answer, holidays_by, record_fault, with_record}
use Rattle.calspan_run.specs.HolidayRuns.{AllRead, HolidayEnds, RowsRefused}
use Rattle.calspan_run.specs.BehindRows.{OverTables, SaysAt}
use Rattle.calspan_run.specs.BookRows.{HasBook, HasFaultyRow, IsBook, behind_lines}
use Rattle.calspan_run.specs.Laws.{AreLasting, EveryInputHas, IsUnique}
use Rattle.calspan_run.specs.TableTexts.{row_refusal}
use Rattle.byte_io.specs.Lines.{lines_in}
use Rattle.table_rows.specs.RowLines.{AtFaultyRow, AtRequest, EndRows, RowsEnd, WithLines}
use Rattle.table_rows.specs.TableRows.{AreAccepted, TableRows, contents_of}
use Rattle.table_rows.specs.declared.table.RowFault.{RowFault}
use Rattle.calspan_run.proofs.BehindRowsLemmas.{behind_exists, behind_unique, over_exists, over_unique}
use Rattle.calspan_run.proofs.BookRowLemmas.{behind_none}
use Rattle.calspan_run.specs.Refusals.{status_of}
use Rattle.calspan_run.specs.Rules.{BookText, SaysBook, book_behind, book_end, book_rules, holiday_rules}
use Rattle.calspan_run.specs.Run.{Outside, Exchanged, outside, limit}
use Rattle.calspan_run.specs.Serving.{Serves, WantedMemory}
use Rattle.calspan_run.specs.TextSoFar.{lines_text}
use Rattle.calspan_run.specs.declared.status.Status.{Status}
use Rattle.calspan_run.specs.declared.status.Status.TheVariants.{Done, Refused, Words, ReadFault, WriteFault, NoMemory, TableRefused, TooLong}
use Rattle.calspan_run.proofs.EndLemmas.{ends_serve}
use Rattle.calspan_run.proofs.KnownLemmas.{appends_none}

-- an empty text has no records
pub no_records : book_records [] ≡ []
unfolding next_record records_from strip_bom
no_records = refl

pub empty_bytes : (bytes : List ℕ) → true ≡ (length bytes == 0) → bytes ≡ []
empty_bytes [] e = refl
empty_bytes (b ∷ bytes) e =
    ⊎_elim {C = b ∷ bytes ≡ []}
    (λ none. absurd (omega (arith, none.1)))
    (λ some. absurd (false≢true (sym some.0 ∙ sym e)))
    (eqb_tells (length (b ∷ bytes)) 0)

-- what is said of rows and a book lasts, and there is one text and one status
pub book_lasts : (written : BookText) → AreLasting (book_rules written)
book_lasts written = record {
  ends = λ bytes more whole text status e h. absurd e;
  lacks = λ bytes more h. omega (arith, h, length-append bytes more);
}

book_ends : (written : BookText) (book : List ℕ) (tables : TableContents) → (text : List ℕ) × (status : Status) × book_end written book tables text status
book_ends written book tables = ((written tables book).0, status_of (written tables book).1, (refl, refl))

book_ends_once : (written : BookText) (book : List ℕ) (tables : TableContents) (x y : List ℕ) (s t : Status) → book_end written book tables x s → book_end written book tables y t → (x ≡ y) × (s ≡ t)
book_ends_once written book tables x y s t (e, d) (f, g) = (e ∙ sym f, d ∙ sym g)

pub book_texts_exist : (written : BookText) → EveryInputHas (SaysBook written)
book_texts_exist written bytes false = ([], Done, (refl, refl))
book_texts_exist written bytes true = behind_exists (book_behind written bytes) (record {
  at_end = λ rows accepted. book_ends written [] (contents_of rows);
  at_line = λ rows n request others. over_exists (book_end written (behind_lines (n - 1) bytes)) rows (λ accepted. book_ends written (behind_lines (n - 1) bytes) (contents_of rows));
}) bytes true

pub book_texts_unique : (written : BookText) → IsUnique (SaysBook written)
book_texts_unique written bytes false x y s t (e, d) (f, g) = (e ∙ sym f, d ∙ sym g)
book_texts_unique written bytes true x y s t h k = behind_unique (book_behind written bytes) (record {
  at_end = book_ends_once written [];
  at_line = λ rows n request others a b u v. over_unique (book_end written (behind_lines (n - 1) bytes)) (book_ends_once written (behind_lines (n - 1) bytes)) rows a b u v;
}) bytes true x y s t h k

is_end : (refused : Bool) → IsEnd (status_of refused)
is_end true = inr (inl refl)
is_end false = inl refl

-- how a run ends over tables, and behind rows
over_end : (written : BookText) (book : List ℕ) (rows : TableRows) (text : List ℕ) (status : Status) → OverTables (book_end written book) rows text status → IsEnd status
over_end written book rows text status (inl (accepted, (e, d))) = subst IsEnd (sym d) (is_end (written (contents_of rows) book).1)
over_end written book rows text status (inr (refuses, e)) = inr (inr e)

says_end : (written : BookText) (bytes text : List ℕ) (status : Status) → SaysBook written bytes true text status → IsEnd status
says_end written bytes text status h = by h.end h.says
  where
    by : (end : RowsEnd) → SaysAt (book_behind written bytes) end true h.rows text status → IsEnd status
    by WithLines over = over_end written [] h.rows text status over
    by (AtFaultyRow n why) (x, e) = inr (inr e)
    by (AtRequest n request others) over = over_end written (behind_lines (n - 1) bytes) h.rows text status over

-- over the tables of the rows, the answer of the book
pub over_rows : (written : BookText) (rows : TableRows) (tables : TableContents) (result : Status) (book : List ℕ) (before now : Option (List ℕ)) (faults more : ℕ) → AreAccepted rows → tables ≡ contents_of rows
    → EndsBook written tables result book before now faults more → EndsOverRows written rows result book before now faults more ⊎ LacksMemory result book before now
over_rows written rows tables result book before now faults more accepted same (inl ends) = inl (record {
  text = (written tables book).0;
  status = status_of (written tables book).1;
  over = inl (accepted, (ap (λ x. (written x book).0) same, ap (λ x. status_of (written x book).1) same));
  ends = ends;
})
over_rows written rows tables result book before now faults more accepted same (inr lacks) = inr lacks

-- what is said of the input where its book was read
book_says : (written : BookText) (bytes : List ℕ) (rows : TableRows) (book text : List ℕ) (status : Status) → HasBook bytes rows book → OverTables (book_end written book) rows text status → SaysBook written bytes true text status
book_says written bytes rows book text status (end, ends, is) over = record { rows = rows; end = end; ends = ends; says = by end is }
  where
    by : (e : RowsEnd) → IsBook e bytes book → SaysAt (book_behind written bytes) e true rows text status
    by WithLines is = subst (λ b. OverTables (book_end written b) rows text status) is over
    by (AtFaultyRow n why) is = absurd is
    by (AtRequest n request others) is = subst (λ b. OverTables (book_end written b) rows text status) is over

-- an input with a book has bytes
has_bytes : (bytes : List ℕ) (rows : TableRows) (book : List ℕ) → HasBook bytes rows book → 0 < length book → 0 < length bytes
has_bytes (b ∷ bytes) rows book h some = omega arith
has_bytes [] rows book (WithLines, ends, is) some = absurd (omega (arith, some, ap length is))
has_bytes [] rows book (AtFaultyRow n why, ends, is) some = absurd is
has_bytes [] rows book (AtRequest n request others, ends, is) some = absurd (omega (arith, some, ap length (is ∙ behind_none (n - 1))))

pub book_read_ends : (written : BookText) (bytes : List ℕ) (rows : TableRows) (result : Status) (book : List ℕ) (before now : Option (List ℕ)) (faults more : ℕ) → HasBook bytes rows book
    → EndsOverRows written rows result book before now faults more ⊎ LacksMemory result book before now → EndsInput written result bytes before now faults more ⊎ LacksMemory result bytes before now
book_read_ends written bytes rows result book before now faults more has (inl h) = inl (record {
  text = h.text;
  status = h.status;
  says = book_says written bytes rows book h.text h.status has h.over;
  ends = h.ends;
})
book_read_ends written bytes rows result book before now faults more has (inr (e, some, kept)) = inr (e, has_bytes bytes rows book has some, kept)

pub faulty_row_ends : (written : BookText) (bytes : List ℕ) (n : ℕ) (why : RowFault) (result : Status) (before now : Option (List ℕ)) (faults more : ℕ) → HasFaultyRow bytes n why
    → EndsWith result TableRefused before now faults more (row_refusal n why) → EndsInput written result bytes before now faults more
faulty_row_ends written bytes n why result before now faults more (rows, ends) wrote = record {
  text = row_refusal n why;
  status = TableRefused;
  says = record { rows = rows; end = AtFaultyRow n why; ends = ends; says = (refl, refl) };
  ends = wrote;
}

module _ (written : BookText) (left l t t2 : Option (List ℕ)) (reads reads2 w w2 : ℕ) where
  whole_ends : (bytes text : List ℕ) (status : Status) → AreAll left l limit bytes → SaysBook written bytes true text status → MayEnd (book_rules written) left l text status
  whole_ends bytes text status h says = record {
    bytes = bytes;
    whole = true;
    took = h.took;
    says = subst (λ (b : List ℕ). SaysBook written b true text status) (sym (take_all limit bytes h.within)) says;
    at_end = λ e. (h.at_end, h.within);
    at_line = λ e. cc;
  }

  -- the whole input was read, and its text was written, or there was no memory for a row or the book
  pub input_serves : (bytes : List ℕ) (result : Status) → AreAll left l limit bytes → EndsInput written result bytes t t2 w w2 ⊎ LacksMemory result bytes t t2 → Serves (book_rules written) result (outside left t reads w) (outside l t2 reads2 w2)
  input_serves bytes result h (inl i) =
      ends_serve (book_rules written) (book_lasts written) left l t t2 reads reads2 w w2 i.text i.status (whole_ends bytes i.text i.status h i.says) result (says_end written bytes i.text i.status i.says) i.ends
  input_serves bytes result h (inr (e, some, kept)) =
      subst (λ (s : Status). Serves (book_rules written) s (outside left t reads w) (outside l t2 reads2 w2)) (sym e) wanted
    where
      keeps_none : (a b : Option (List ℕ)) → Keeps a b → Appends a b []
      keeps_none None b k = tt
      keeps_none (Some x) None k = absurd k
      keeps_none (Some x) (Some y) k = k ∙ appends_none (Some x)

      wanted : WantedMemory (book_rules written) (outside left t reads w) (outside l t2 reads2 w2)
      wanted = record {
        bytes = bytes;
        whole = true;
        exchanged = record { took = h.took; wrote = keeps_none t t2 kept };
        may = subst (λ (b : List ℕ). 0 < length b) (sym (take_all limit bytes h.within)) some;
        within = λ keeps. h.within;
        at_end = λ e. (h.at_end, h.within);
      }

-- there was no memory for the bytes of the source
module _ (written : BookText) (left l t : Option (List ℕ)) (reads reads2 w : ℕ) where
  pub memory_serves : StopsEarly early.NoMemory limit left l reads reads2 → Serves (book_rules written) NoMemory (outside left t reads w) (outside l t reads2 w)
  memory_serves (bytes, took, (some, within)) = record {
    bytes = bytes;
    whole = false;
    exchanged = record { took = took; wrote = appends_none t };
    may = subst (λ (b : List ℕ). 0 < length b) (sym (take_all limit bytes within)) some;
    within = λ keeps. within;
    at_end = λ e. cc;
  }
