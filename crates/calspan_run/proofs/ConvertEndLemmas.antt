-- A run of `convert` ends as its eight ends say.
use Rattle.std.proofs.Common.{◌≡◌, ℕ, ◌+◌, ◌≤◌, Bool, true, false, List, [], ◌∷◌, ◌++◌, ◌⊎◌, inl, inr, length, Option, refl, arith, ◌∙◌, sym, ap, subst}
use Rattle.std.specs.Io.KnownBytes.{IsAtEnd}
use Rattle.byte_io.specs.Faults.{counted_on}
use Rattle.byte_io.specs.Lines.{lines_in}
use Rattle.request_lines.specs.Rows.{Row}
use Rattle.table_rows.specs.RowLines.{Faulty, Kept, RowOutcome, TakesRow}
use Rattle.table_rows.specs.TableRows.{AreAccepted, TableRows, contents_of, no_rows}
use Rattle.table_rows.specs.declared.table.RowFault.{RowFault}
use Rattle.calspan_run.specs.BehindRows.{OverTables, RefusesTables}
use Rattle.command_line.specs.ConvertAsked.{ConvertAsked}
use Rattle.calspan_run.specs.ConvertEnds.{AddHead, AllConverted, ConvertEnds, EndHead, HasHead, HeadRefused, KeepsHead, PartConverted, RowRefused}
use Rattle.calspan_run.specs.ConvertTexts.{AtEnd, AtLine, Behind, Comment, Converts, Dated, HeadLine, RowLine, SaysConvert, SaysFrom, any_bad, head_line}
use Rattle.calspan_run.specs.Converted.{line_text}
use Rattle.calspan_run.specs.Refusals.{status_of}
use Rattle.calspan_run.specs.Run.{Outside, Exchanged}
use Rattle.calspan_run.specs.Streaming.{Streams, convert_rules, most_reads}
use Rattle.calspan_run.specs.TableTexts.{row_refusal}
use Rattle.calspan_run.specs.TextSoFar.{lines_text}
use Rattle.calspan_run.specs.declared.status.Status.{Status}
use Rattle.calspan_run.specs.declared.status.Status.TheVariants.{Done, Refused, Words, ReadFault, WriteFault, NoMemory, TableRefused, TooLong}
use Rattle.calspan_run.proofs.ConvertHeadLemmas.{RefusedAt}
use Rattle.calspan_run.proofs.ConvertRunLemmas.{goes_on}

-- the head of these lines, behind some rows
record HeadFrom (from : TableRows) (lines : List (List ℕ)) (rows : TableRows) (dated : List (List ℕ)) : Type 0 where
  pub head : List (List ℕ)
  pub are_head : AddHead head from rows
  pub ends : EndHead dated
  pub all : lines ≡ head ++ dated

-- the lines behind the head are answered
record Answers (a : ConvertAsked) (from : TableRows) (lines : List (List ℕ)) (text : List ℕ) (status : Status) : Type 0 where
  pub rows : TableRows
  pub dated : List (List ℕ)
  pub head : HeadFrom from lines rows dated
  pub accepted : AreAccepted rows
  pub is_text : text ≡ lines_text (line_text a (contents_of rows)) dated
  pub is_status : status ≡ status_of (any_bad a (contents_of rows) false dated)

-- only lines of the head came
record IsPart (whole : Bool) (from : TableRows) (lines : List (List ℕ)) (text : List ℕ) (status : Status) : Type 0 where
  pub rows : TableRows
  pub head : HeadFrom from lines rows []
  pub part : whole ≡ false
  pub none : text ≡ []
  pub done : status ≡ Done

-- a row line is refused; so many lines were counted before
record IsRowRefused (from : TableRows) (count : ℕ) (lines : List (List ℕ)) (text : List ℕ) (status : Status) : Type 0 where
  pub head : List (List ℕ)
  pub rows : TableRows
  pub line : List ℕ
  pub more : List (List ℕ)
  pub row : Option Row
  pub why : RowFault
  pub all : lines ≡ head ++ line ∷ more
  pub are_head : AddHead head from rows
  pub is_row : head_line line ≡ RowLine row
  pub refuses : TakesRow rows row (Faulty why)
  pub is_text : text ≡ row_refusal (counted_on (count + length head)) why
  pub is_status : status ≡ TableRefused

-- the tables are refused
record IsHeadRefused (whole : Bool) (from : TableRows) (lines : List (List ℕ)) (text : List ℕ) (status : Status) : Type 0 where
  pub rows : TableRows
  pub dated : List (List ℕ)
  pub head : HeadFrom from lines rows dated
  pub ended : dated ≡ [] → whole ≡ true
  pub refuses : RefusesTables rows text
  pub is_status : status ≡ TableRefused

abbrev Came : ConvertAsked → Bool → TableRows → ℕ → List (List ℕ) → List ℕ → Status → Type 0
Came a whole from count lines text status =
    (Answers a from lines text status ⊎ IsPart whole from lines text status) ⊎ (IsRowRefused from count lines text status ⊎ IsHeadRefused whole from lines text status)

-- one line of the head before
module _ (from next : TableRows) (line : List ℕ) (more : List (List ℕ)) (keeps : KeepsHead (head_line line) from next) where
  head_more : (rows : TableRows) (dated : List (List ℕ)) → HeadFrom next more rows dated → HeadFrom from (line ∷ more) rows dated
  head_more rows dated h = record {
    head = line ∷ h.head;
    are_head = (next, keeps, h.are_head);
    ends = h.ends;
    all = ap (λ y. line ∷ y) h.all;
  }

  further : (a : ConvertAsked) (whole : Bool) (count : ℕ) (text : List ℕ) (status : Status) → Came a whole next (count + 1) more text status → Came a whole from count (line ∷ more) text status
  further a whole count text status (inl (inl h)) = inl (inl (record {
    rows = h.rows;
    dated = h.dated;
    head = head_more h.rows h.dated h.head;
    accepted = h.accepted;
    is_text = h.is_text;
    is_status = h.is_status;
  }))
  further a whole count text status (inl (inr h)) = inl (inr (record { rows = h.rows; head = head_more h.rows [] h.head; part = h.part; none = h.none; done = h.done }))
  further a whole count text status (inr (inl h)) =
      let same : count + 1 + length h.head ≡ count + length (line ∷ h.head) = omega arith in
      inr (inl (record {
        head = line ∷ h.head;
        rows = h.rows;
        line = h.line;
        more = h.more;
        row = h.row;
        why = h.why;
        all = ap (λ y. line ∷ y) h.all;
        are_head = (next, keeps, h.are_head);
        is_row = h.is_row;
        refuses = h.refuses;
        is_text = h.is_text ∙ ap (λ (k : ℕ). row_refusal (counted_on k) h.why) same;
        is_status = h.is_status;
      }))
  further a whole count text status (inr (inr h)) = inr (inr (record {
    rows = h.rows;
    dated = h.dated;
    head = head_more h.rows h.dated h.head;
    ended = h.ended;
    refuses = h.refuses;
    is_status = h.is_status;
  }))

-- the head ends here
ends_here : (from : TableRows) (lines : List (List ℕ)) → EndHead lines → HeadFrom from lines from lines
ends_here from lines ends = record { head = []; are_head = refl; ends = ends; all = refl }

counted_more : (count : ℕ) → counted_on (counted_on count) ≡ counted_on (count + 1)
counted_more count = omega arith

module _ (a : ConvertAsked) (whole : Bool) (from : TableRows) (count : ℕ) (text : List ℕ) (status : Status) where
  over_lines : (lines : List (List ℕ)) → EndHead lines → (lines ≡ [] → whole ≡ true) → OverTables (Converts a lines) from text status → Came a whole from count lines text status
  over_lines lines ends ended (inl (accepted, (e, d))) = inl (inl (record {
    rows = from;
    dated = lines;
    head = ends_here from lines ends;
    accepted = accepted;
    is_text = e;
    is_status = d;
  }))
  over_lines lines ends ended (inr (refuses, e)) = inr (inr (record {
    rows = from;
    dated = lines;
    head = ends_here from lines ends;
    ended = ended;
    refuses = refuses;
    is_status = e;
  }))

  module _ (line : List ℕ) (more : List (List ℕ)) (on : (next : TableRows) → SaysFrom a whole next (counted_on (counted_on count)) more text status → Came a whole next (count + 1) more text status) where
    at_row : (row : Option Row) → head_line line ≡ RowLine row → (outcome : RowOutcome) → TakesRow from row outcome
        → Behind outcome (λ next. SaysFrom a whole next (counted_on (counted_on count)) more text status) (RefusedAt (counted_on count) text status) → Came a whole from count (line ∷ more) text status
    at_row row is (Kept next) takes h = further from next line more (subst (λ x. KeepsHead x from next) (sym is) takes) a whole count text status (on next h)
    at_row row is (Faulty why) takes (e, d) =
        let same : count ≡ count + length {A = List ℕ} [] = omega arith in
        inr (inl (record {
          head = [];
          rows = from;
          line = line;
          more = more;
          row = row;
          why = why;
          all = refl;
          are_head = refl;
          is_row = is;
          refuses = takes;
          is_text = e ∙ ap (λ (k : ℕ). row_refusal (counted_on k) why) same;
          is_status = d;
        }))

    at_line : (x : HeadLine) → head_line line ≡ x
        → AtLine x from (λ next. SaysFrom a whole next (counted_on (counted_on count)) more text status) (RefusedAt (counted_on count) text status) (OverTables (Converts a (line ∷ more)) from text status)
        → Came a whole from count (line ∷ more) text status
    at_line Comment is h = further from from line more (subst (λ x. KeepsHead x from from) (sym is) refl) a whole count text status (on from h)
    at_line (RowLine row) is (outcome, takes, h) = at_row row is outcome takes h
    at_line Dated is h = over_lines (line ∷ more) is (λ e. cc) h

at_end : (a : ConvertAsked) (whole : Bool) (from : TableRows) (count : ℕ) (text : List ℕ) (status : Status) → AtEnd whole from text status → Came a whole from count [] text status
at_end a true from count text status h = over_lines a true from count text status [] tt (λ e. refl) h
at_end a false from count text status (e, d) = inl (inr (record { rows = from; head = ends_here from [] tt; part = refl; none = e; done = d }))

came : (a : ConvertAsked) (whole : Bool) (lines : List (List ℕ)) (from : TableRows) (count : ℕ) (text : List ℕ) (status : Status) → SaysFrom a whole from (counted_on count) lines text status → Came a whole from count lines text status
came a whole [] from count text status h = at_end a whole from count text status h
came a whole (line ∷ more) from count text status h =
    at_line a whole from count text status line more
    (λ next g. came a whole more next (count + 1) text status (subst (λ (k : ℕ). SaysFrom a whole next k more text status) (counted_more count) g))
    (head_line line) refl h

-- of a whole input, or of a part
came_says : (a : ConvertAsked) (bytes : List ℕ) (whole : Bool) (text : List ℕ) (status : Status) → SaysConvert a bytes whole text status → Came a whole no_rows 0 (lines_in bytes whole) text status
came_says a bytes whole text status h = came a whole (lines_in bytes whole) no_rows 0 text status h

has_head : (lines : List (List ℕ)) (rows : TableRows) (dated : List (List ℕ)) → HeadFrom no_rows lines rows dated → HasHead lines rows dated
has_head lines rows dated h = record { head = h.head; are_head = h.are_head; ends = h.ends; all = h.all }

-- the ends in plain terms
module _ (a : ConvertAsked) (before now : Outside) where
  bad_is : (x bad : Bool) → status_of bad ≡ status_of x → bad ≡ x
  bad_is true true e = refl
  bad_is true false e = cc
  bad_is false true e = cc
  bad_is false false e = refl

  goes_off : (status : Status) → (status ≡ TableRefused → ⊥) → (bytes text : List ℕ) → Exchanged before now bytes text → Came a false no_rows 0 (lines_in bytes false) text status → (part : PartConverted a before now) × (part.bytes ≡ bytes)
  goes_off status on bytes text exchanged (inl (inl h)) = (
    record {
      bytes = bytes;
      rows = h.rows;
      dated = h.dated;
      has_head = has_head (lines_in bytes false) h.rows h.dated h.head;
      accepted = inr h.accepted;
      exchanged = subst (λ (x : List ℕ). Exchanged before now bytes x) h.is_text exchanged;
    },
    refl,
  )
  goes_off status on bytes text exchanged (inl (inr h)) = (
    record {
      bytes = bytes;
      rows = h.rows;
      dated = [];
      has_head = has_head (lines_in bytes false) h.rows [] h.head;
      accepted = inl refl;
      exchanged = subst (λ (x : List ℕ). Exchanged before now bytes x) h.none exchanged;
    },
    refl,
  )
  goes_off status on bytes text exchanged (inr (inl h)) = absurd (on h.is_status)
  goes_off status on bytes text exchanged (inr (inr h)) = absurd (on h.is_status)

  module _ (bytes text : List ℕ) (whole : Bool) (exchanged : Exchanged before now bytes text) (end : whole ≡ true → IsAtEnd now.left) where
    not_part : (bad : Bool) → (whole ≡ false → status_of bad ≡ TableRefused) → whole ≡ true
    not_part bad at_line = by whole at_line
      where
        by : (w : Bool) → (w ≡ false → status_of bad ≡ TableRefused) → w ≡ true
        by true h = refl
        by false h = absurd (goes_on bad (h refl))

    all_read : (bad : Bool) → (whole ≡ false → status_of bad ≡ TableRefused) → Came a whole no_rows 0 (lines_in bytes whole) text (status_of bad) → AllConverted a before now bad
    all_read bad at_line (inl (inl h)) =
        let is = not_part bad at_line in
        record {
          bytes = bytes;
          rows = h.rows;
          dated = h.dated;
          at_end = end is;
          has_head = subst (λ (w : Bool). HasHead (lines_in bytes w) h.rows h.dated) is (has_head (lines_in bytes whole) h.rows h.dated h.head);
          accepted = h.accepted;
          exchanged = subst (λ (x : List ℕ). Exchanged before now bytes x) h.is_text exchanged;
          is_bad = bad_is (any_bad a (contents_of h.rows) false h.dated) bad h.is_status;
        }
    all_read bad at_line (inl (inr h)) = absurd (goes_on bad (at_line h.part))
    all_read bad at_line (inr (inl h)) = absurd (goes_on bad h.is_status)
    all_read bad at_line (inr (inr h)) = absurd (goes_on bad h.is_status)

    refused : Came a whole no_rows 0 (lines_in bytes whole) text TableRefused → RowRefused before now ⊎ HeadRefused before now
    refused (inl (inl h)) = absurd (goes_on (any_bad a (contents_of h.rows) false h.dated) (sym h.is_status))
    refused (inl (inr h)) = absurd (goes_on false (sym h.done))
    refused (inr (inl h)) =
        let same : 0 + length h.head ≡ length h.head = omega arith in
        inl (record {
          bytes = bytes;
          whole = whole;
          head = h.head;
          rows = h.rows;
          line = h.line;
          more = h.more;
          row = h.row;
          why = h.why;
          all = h.all;
          are_head = h.are_head;
          is_row = h.is_row;
          refuses = h.refuses;
          exchanged = subst (λ (x : List ℕ). Exchanged before now bytes x) (h.is_text ∙ ap (λ (k : ℕ). row_refusal (counted_on k) h.why) same) exchanged;
          at_end = end;
        })
    refused (inr (inr h)) = inr (record {
      bytes = bytes;
      text = text;
      whole = whole;
      rows = h.rows;
      dated = h.dated;
      has_head = has_head (lines_in bytes whole) h.rows h.dated h.head;
      ended = h.ended;
      refuses = h.refuses;
      exchanged = exchanged;
      at_end = end;
    })

  too_long : (bytes : List ℕ) → most_reads ≤ length bytes → (part : PartConverted a before now) × (part.bytes ≡ bytes) → (part : PartConverted a before now) × (most_reads ≤ length part.bytes)
  too_long bytes more (part, same) = (part, subst (λ (b : List ℕ). most_reads ≤ length b) (sym same) more)

  pub convert_ends : (status : Status) → Streams (convert_rules a) status before now → ConvertEnds a status before now
  convert_ends Done h = all_read h.bytes h.text h.whole h.exchanged h.at_end false h.at_line (came_says a h.bytes h.whole h.text Done h.says)
  convert_ends Refused h = all_read h.bytes h.text h.whole h.exchanged h.at_end true h.at_line (came_says a h.bytes h.whole h.text Refused h.says)
  convert_ends Words h = h
  convert_ends ReadFault h = (h.rose, (goes_off h.status h.goes_on h.bytes h.text h.exchanged (came_says a h.bytes false h.text h.status h.says)).0)
  convert_ends WriteFault h = h
  convert_ends NoMemory h = h
  convert_ends TableRefused h = refused h.bytes h.text h.whole h.exchanged h.at_end (came_says a h.bytes h.whole h.text TableRefused h.says)
  convert_ends TooLong h = too_long h.bytes h.more (goes_off h.status h.goes_on h.bytes h.text h.exchanged (came_says a h.bytes false h.text h.status h.says))
