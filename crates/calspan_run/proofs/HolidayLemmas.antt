-- A run of `holidays`: what its book says, the lines of its list, and how it ends.
use Rattle.std.proofs.Common.{◌≡◌, ℕ, zero, suc, ◌==◌, ◌+◌, ◌-◌, ◌<◌, ◌≤◌, ◌⊎◌, ℤ, pos, ◌+ℤ◌, ◌-ℤ◌, Bool, true, false, cond, List, [], ◌∷◌, ◌++◌, map, filter, length, take, Option, Some, None, Result, Ok, Err, codes, ⊎_elim, inl, inr, refl, sym, ap, ap₂, subst, ◌∙◌, arith}
use Rattle.std.proofs.lemmas.Bool.{false≢true}
use Rattle.std.proofs.lemmas.Bool.Decides.{eqb_tells}
use Rattle.std.proofs.lemmas.List.{take_all, length-append}
use Rattle.std.specs.Io.KnownBytes.{Appends, IsAtEnd, Keeps}
use Rattle.csv.specs.Machine.{next_record}
use Rattle.csv.specs.Reading.{records_from, strip_bom}
use Rattle.byte_io.specs.Whole.{AreAll, StopsEarly}
use Rattle.byte_io.specs.declared.whole.ReadAllError.TheVariants as early
use Rattle.cal_days.specs.Sums.{years_up}
use Rattle.cal_holidays.specs.BookNames.{holidays_in, names_in_book}
use Rattle.cal_holidays.specs.Books.{IsBookFault, IsFirstBad, book_records}
use Rattle.cal_holidays.specs.Items.{holiday_of}
use Rattle.cal_holidays.specs.Listing.{pair_given}
use Rattle.cal_holidays.specs.Merging.{pairs_in}
use Rattle.cal_holidays.specs.Records.{record_read}
use Rattle.cal_holidays.specs.Rules.{NamedRule}
use Rattle.cal_holidays.specs.declared.book.BookError.{BookError}
use Rattle.cal_holidays.specs.declared.book.BookError.TheVariants as book
use Rattle.cal_holidays.specs.declared.merged.Holiday.{Holiday}
use Rattle.cal_tables.specs.Kinds.{TableContents}
use Rattle.command_line.specs.Asked.{HolidaysAsked}
use Rattle.calspan_run.specs.DayLines.{is_refused, is_window, list_text}
use Rattle.calspan_run.specs.Endings.{EndsWith, IsEnd, MayEnd}
use Rattle.calspan_run.specs.BookEndings.{EndsBook, EndsInput, EndsOverRows, LacksMemory}
use Rattle.calspan_run.specs.HolidayLines.{book_read, holiday_line, holidays_answer, holidays_by, holidays_written, record_fault, with_record}
use Rattle.calspan_run.specs.HolidayRuns.{AllRead, HolidayEnds, RowsRefused}
use Rattle.calspan_run.specs.BehindRows.{OverTables, SaysAt}
use Rattle.calspan_run.specs.BookRows.{HasBook, HasFaultyRow, IsBook, behind_lines}
use Rattle.calspan_run.specs.Laws.{AreLasting, EveryInputHas, IsUnique}
use Rattle.calspan_run.specs.TableTexts.{row_refusal}
use Rattle.byte_io.specs.Lines.{lines_in}
use Rattle.table_rows.specs.RowLines.{AtFaultyRow, AtRequest, EndRows, RowsEnd, WithLines}
use Rattle.table_rows.specs.TableRows.{AreAccepted, TableRows, contents_of}
use Rattle.table_rows.specs.declared.table.RowFault.{RowFault}
use Rattle.calspan_run.proofs.BehindRowsLemmas.{behind_exists, behind_unique, over_exists, over_unique}
use Rattle.calspan_run.proofs.BookRowLemmas.{behind_none}
use Rattle.calspan_run.specs.Refusals.{status_of}
use Rattle.calspan_run.specs.Rules.{BookText, SaysBook, book_behind, book_end, book_rules, holiday_rules}
use Rattle.calspan_run.specs.Run.{Outside, Exchanged, outside, limit}
use Rattle.calspan_run.specs.Serving.{Serves, WantedMemory}
use Rattle.calspan_run.specs.TextSoFar.{lines_text}
use Rattle.calspan_run.specs.declared.status.Status.{Status}
use Rattle.calspan_run.specs.declared.status.Status.TheVariants.{Done, Refused, Words, ReadFault, WriteFault, NoMemory, TableRefused, TooLong}
use Rattle.calspan_run.proofs.BookLemmas.{no_records}
use Rattle.calspan_run.proofs.EndLemmas.{ends_serve}
use Rattle.calspan_run.proofs.KnownLemmas.{appends_none}

-- where each record is a holiday, these are the book
book_is_read : (number : ℕ) (rows : List (List (List ℕ))) (rules : List NamedRule) → map record_read rows ≡ map Ok rules → book_read number rows ≡ Ok rules
book_is_read number [] [] e = refl
book_is_read number [] (rule ∷ rules) e = cc
book_is_read number (row ∷ rows) [] e = cc
book_is_read number (row ∷ rows) (rule ∷ rules) e =
    let first : record_read row ≡ Ok rule = cc in
    let more : map record_read rows ≡ map Ok rules = cc in
    ap₂ (with_record number) first (book_is_read (number + 1) rows rules more)

-- behind some holidays a record is none
bad_behind : (number : ℕ) (before : List (List (List ℕ))) (rules : List NamedRule) (bad : List (List ℕ)) (after : List (List (List ℕ))) (field : ℕ) → map record_read before ≡ map Ok rules → record_read bad ≡ Err field
    → book_read number (before ++ bad ∷ after) ≡ Err (number + length before, field)
bad_behind number [] [] bad after field e f =
    ap (λ r. with_record number r (book_read (number + 1) after)) f ∙ ap (λ n. Err (n, field)) (omega arith)
bad_behind number [] (rule ∷ rules) bad after field e f = cc
bad_behind number (row ∷ before) [] bad after field e f = cc
bad_behind number (row ∷ before) (rule ∷ rules) bad after field e f =
    let first : record_read row ≡ Ok rule = cc in
    let more : map record_read before ≡ map Ok rules = cc in
    ap₂ (with_record number) first (bad_behind (number + 1) before rules bad after field more f) ∙ ap (λ n. Err (n, field)) (omega arith)

record_is_bad : (rows : List (List (List ℕ))) (number field : ℕ) → IsFirstBad rows number field → book_read 1 rows ≡ Err (number, field)
record_is_bad rows number field h =
    ap (book_read 1) h.rows_are
    ∙ (bad_behind 1 h.before h.good.0 h.bad h.after field h.good.1 h.field_is ∙ ap (λ n. Err (n, field)) (omega (arith, h.number_is)))

-- the lines of the items are those of their days and rules
pub item_lines : (rules : List NamedRule) (pairs : List (ℤ × ℕ)) → lines_text (λ (x : Holiday). holiday_line rules (pair_given x)) (map holiday_of pairs) ≡ lines_text (holiday_line rules) pairs
item_lines rules [] = refl
item_lines rules ((n, r) ∷ pairs) = ap (λ t. holiday_line rules (n, r) ++ t) (item_lines rules pairs)

module _ (asked : HolidaysAsked) (tables : TableContents) (book : List ℕ) where
  abbrev answer : Result (List ℕ) (List ℕ)
  answer = holidays_answer asked tables book

  in_window : is_window asked.first asked.last ≡ true → answer ≡ holidays_by asked tables (book_read 1 (book_records book))
  in_window e = ap (λ b. cond b (holidays_by asked tables (book_read 1 (book_records book))) (Err (codes "InvalidWindow"))) e

  -- the answer by how the words and the book were read
  pub answer_is_list : (rules : List NamedRule) → is_window asked.first asked.last ≡ true → map record_read (book_records book) ≡ map Ok rules
      → answer ≡ Ok (lines_text (holiday_line rules) (holidays_in tables rules asked.first asked.last 0))
  answer_is_list rules e h = in_window e ∙ ap (holidays_by asked tables) (book_is_read 1 (book_records book) rules h)

  pub answer_is_record : (number field : ℕ) → is_window asked.first asked.last ≡ true → IsFirstBad (book_records book) number field → answer ≡ Err (record_fault number field)
  answer_is_record number field e h = in_window e ∙ ap (holidays_by asked tables) (record_is_bad (book_records book) number field h)

  -- the text of the answer was written, or a prefix of it
  pub ends_with_answer : (result : Status) (before now : Option (List ℕ)) (faults more : ℕ) (x : Result (List ℕ) (List ℕ)) → answer ≡ x → EndsWith result (status_of (is_refused x)) before now faults more (list_text x) → EndsBook (holidays_written asked) tables result book before now faults more
  ends_with_answer result before now faults more x e h =
      inl (subst (λ (y : Result (List ℕ) (List ℕ)). EndsWith result (status_of (is_refused y)) before now faults more (list_text y)) (sym e) h)

-- the first bad record was refused
pub record_refused : (asked : HolidaysAsked) (tables : TableContents) (bytes : List ℕ) (result : Status) (before now : Option (List ℕ)) (faults more number field shown shown_field : ℕ) (e : BookError) → is_window asked.first asked.last ≡ true
    → IsBookFault (book_records bytes) e → e ≡ book.Record number field → shown ≡ number → shown_field ≡ field
    → EndsWith result Refused before now faults more (list_text (Err (record_fault shown shown_field))) → EndsBook (holidays_written asked) tables result bytes before now faults more
record_refused asked tables bytes result before now faults more number field shown shown_field e window fault is same same_field ends =
    let first = answer_is_record asked tables bytes number field window (subst (IsBookFault (book_records bytes)) is fault) in
    ends_with_answer asked tables bytes result before now faults more (Err (record_fault shown shown_field)) (first ∙ ap₂ (λ (n f : ℕ). Err (record_fault n f)) (sym same) (sym same_field)) ends

-- no rule names a day
no_pairs : (n : ℤ) (days : ℕ) → pairs_in 0 n days ≡ []
no_pairs n zero = refl
no_pairs n (suc days) = no_pairs (n +ℤ pos 1) days

no_holidays : (tables : TableContents) (first last : ℤ) → holidays_in tables [] first last 0 ≡ []
no_holidays tables first last = ap (filter (λ (p : ℤ × ℕ). names_in_book tables [] p.1 p.0)) (no_pairs (first +ℤ pos 1) (years_up (last -ℤ first)))

-- nothing comes of an empty book
pub empty_answer : (asked : HolidaysAsked) (tables : TableContents) (bytes : List ℕ) → bytes ≡ [] → is_window asked.first asked.last ≡ true → holidays_answer asked tables bytes ≡ Ok []
empty_answer asked tables bytes none e =
    ap (holidays_answer asked tables) none
    ∙ (answer_is_list asked tables [] [] e (ap (map record_read) no_records)
    ∙ ap (λ (pairs : List (ℤ × ℕ)). Ok (lines_text (holiday_line []) pairs)) (no_holidays tables asked.first asked.last))

-- the ends in plain terms
module _ (asked : HolidaysAsked) (before now : Outside) where
  not_table : (refused : Bool) → status_of refused ≡ TableRefused → ⊥
  not_table true e = cc
  not_table false e = cc

  refused_by : (x refused : Bool) → status_of refused ≡ status_of x → refused ≡ x
  refused_by true true e = refl
  refused_by true false e = cc
  refused_by false true e = cc
  refused_by false false e = refl

  -- the list of a book was written, or its refusal
  of_book : (refused : Bool) (bytes text : List ℕ) (rows : TableRows) (book : List ℕ) → Exchanged before now bytes text → IsAtEnd now.left × (length bytes ≤ limit) → HasBook bytes rows book
      → OverTables (book_end (holidays_written asked) book) rows text (status_of refused) → AllRead asked before now refused
  of_book refused bytes text rows book exchanged (end, within) has (inl (accepted, (e, d))) = record {
    bytes = bytes;
    rows = rows;
    book = book;
    within = within;
    has_book = has;
    accepted = accepted;
    exchanged = subst (λ (x : List ℕ). Exchanged before now bytes x) e exchanged;
    at_end = end;
    is_refused = refused_by (is_refused (holidays_answer asked (contents_of rows) book)) refused d;
  }
  of_book refused bytes text rows book exchanged (end, within) has (inr (refuses, e)) = absurd (not_table refused e)

  of_rows : (refused : Bool) (bytes text : List ℕ) (rows : TableRows) (e : RowsEnd) → Exchanged before now bytes text → IsAtEnd now.left × (length bytes ≤ limit) → EndRows e (lines_in bytes true) rows
      → SaysAt (book_behind (holidays_written asked) bytes) e true rows text (status_of refused) → AllRead asked before now refused
  of_rows refused bytes text rows WithLines exchanged at_end ends over = of_book refused bytes text rows [] exchanged at_end (WithLines, ends, refl) over
  of_rows refused bytes text rows (AtFaultyRow n why) exchanged at_end ends (x, e) = absurd (not_table refused e)
  of_rows refused bytes text rows (AtRequest n request others) exchanged at_end ends over =
      of_book refused bytes text rows (behind_lines (n - 1) bytes) exchanged at_end (AtRequest n request others, ends, refl) over

  whole_says : (bytes text : List ℕ) (status : Status) (whole : Bool) → (whole ≡ true → IsAtEnd now.left × (length bytes ≤ limit)) → (whole ≡ false → ⊥) → SaysBook (holidays_written asked) (take limit bytes) whole text status
      → IsAtEnd now.left × (length bytes ≤ limit) × SaysBook (holidays_written asked) bytes true text status
  whole_says bytes text status false at_end at_line says = absurd (at_line refl)
  whole_says bytes text status true at_end at_line says =
      let (end, within) = at_end refl in
      (end, within, subst (λ (b : List ℕ). SaysBook (holidays_written asked) b true text status) (take_all limit bytes within) says)

  of_whole : (refused : Bool) (bytes text : List ℕ) (whole : Bool) → Exchanged before now bytes text → (whole ≡ true → IsAtEnd now.left × (length bytes ≤ limit)) → (whole ≡ false → ⊥) → SaysBook (holidays_written asked) (take limit bytes) whole text (status_of refused) → AllRead asked before now refused
  of_whole refused bytes text whole exchanged at_end at_line says =
      let (end, within, h) = whole_says bytes text (status_of refused) whole at_end at_line says in
      of_rows refused bytes text h.rows h.end exchanged (end, within) h.ends h.says

  rows_refused : (bytes text : List ℕ) (whole : Bool) → Exchanged before now bytes text → (whole ≡ true → IsAtEnd now.left × (length bytes ≤ limit)) → (whole ≡ false → ⊥) → SaysBook (holidays_written asked) (take limit bytes) whole text TableRefused → RowsRefused asked before now
  rows_refused bytes text whole exchanged at_end at_line says =
      let (end, within, h) = whole_says bytes text TableRefused whole at_end at_line says in
      record {
        bytes = bytes;
        text = text;
        within = within;
        exchanged = exchanged;
        at_end = end;
        says = h;
      }

  some_came : (n : ℕ) (bytes : List ℕ) → 0 < length (take n bytes) → 0 < length bytes
  some_came zero [] h = h
  some_came (suc n) [] h = h
  some_came n (b ∷ bytes) h = omega arith

  pub holiday_ends : (status : Status) → Serves (holiday_rules asked) status before now → HolidayEnds asked status before now
  holiday_ends Done h = of_whole false h.bytes h.text h.whole h.exchanged h.at_end h.at_line h.says
  holiday_ends Refused h = of_whole true h.bytes h.text h.whole h.exchanged h.at_end h.at_line h.says
  holiday_ends Words h = h
  holiday_ends ReadFault h = (h.bytes, h.rose, subst (λ (x : List ℕ). Exchanged before now h.bytes x) h.says.0 h.exchanged)
  holiday_ends WriteFault h = h
  holiday_ends NoMemory h = (h.bytes, some_came limit h.bytes h.may, h.within tt, h.exchanged)
  holiday_ends TableRefused h = rows_refused h.bytes h.text h.whole h.exchanged h.at_end h.at_line h.says
  holiday_ends TooLong h = (h.bytes, h.more, subst (λ (x : List ℕ). Exchanged before now h.bytes x) h.says.0 h.exchanged)
