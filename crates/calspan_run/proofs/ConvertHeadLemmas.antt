-- The head of an input of `convert`, line by line.
use Rattle.std.proofs.Common.{◌≡◌, ℕ, ◌+◌, ◌<◌, ◌≤◌, ◌==◌, Bool, true, false, cond, not, nat_lt, List, [], ◌∷◌, ◌++◌, length, take, Option, inl, inr, ⊎_elim, Result, Ok, Err, refl, arith, ◌∙◌, sym, ap, subst}
use Rattle.std.proofs.lemmas.Bool.{lt-ltb}
use Rattle.std.proofs.lemmas.Bool.Decides.{eqb_tells, nat_tests}
use Rattle.std.specs.Prelude.{slice_index}
use Rattle.std.proofs.lemmas.List.{append-nil, append_assoc, length-append}
use Rattle.std.specs.Io.KnownBytes.{Consumes, IsAtEnd, Keeps}
use Rattle.std.proofs.KnownBytes.{Consumes-kept, Consumes-trans}
use Rattle.byte_io.specs.Faults.{counted_on}
use Rattle.byte_io.specs.Lines.{closed_lines, lines_in, open_line}
use Rattle.byte_io.specs.Reader.{unseen}
use Rattle.byte_io.proofs.PartLemmas.{closed_lines-prefix}
use Rattle.long_lines.specs.Buffer.{Holds}
use Rattle.long_lines.specs.Reader.{GivesAll, GivesLine, IsAt, IsSpent}
use Rattle.long_lines.specs.declared.buffer.LongLine.{LongLine}
use Rattle.long_lines.specs.declared.reader.LineReader.{LineReader}
use Rattle.request_lines.specs.Lines.{Line, Nothing, GivesRow, Requests, Long, IsLine, is_silent, line_of, said_by}
use Rattle.std.specs.Str.Lines.{strip_carriage_return}
use Rattle.request_lines.specs.Rows.{Row}
use Rattle.request_lines.proofs.LineLemmas.{line_is}
use Rattle.table_rows.specs.Reading.{IsLineTaken}
use Rattle.table_rows.specs.RowLines.{Kept, Faulty, TakesRow}
use Rattle.table_rows.specs.TableRows.{TableRows, no_rows}
use Rattle.table_rows.specs.declared.errors.RowError.{RowError}
use Rattle.table_rows.specs.declared.errors.RowError.TheVariants as error
use Rattle.table_rows.specs.declared.table.RowFault.{RowFault}
use Rattle.table_rows.proofs.InputLemmas.{consumes_end}
use Rattle.calspan_run.specs.BehindRows.{OverTables}
use Rattle.command_line.specs.ConvertAsked.{ConvertAsked}
use Rattle.calspan_run.specs.ConvertTexts.{AtLine, Comment, Converts, Dated, HeadLine, RowLine, SaysConvert, SaysFrom, head_line, said_line}
use Rattle.calspan_run.specs.Converting.{open_lines}
use Rattle.calspan_run.specs.Heading.{AreHead, HasHeaded, IsHeading, MetDate, MetHeadEnd, MetLastDate, Said, TakesLine, is_plain, taken_line}
use Rattle.calspan_run.specs.Streaming.{most_reads}
use Rattle.calspan_run.specs.TableTexts.{row_refusal}
use Rattle.calspan_run.specs.declared.convert.head.HeadLine.TheVariants as head
use Rattle.calspan_run.specs.declared.status.Status.{Status}
use Rattle.calspan_run.specs.declared.status.Status.TheVariants.{Done, TableRefused}

-- a line that isn't empty and begins with no `#` is what it says
head_of : (line : List ℕ) → is_plain line ≡ true → head_line line ≡ said_line (line_of line)
head_of [] plain = cc
head_of (b ∷ line) plain = by (b == 35) plain
  where
    by : (c : Bool) → not c ≡ true → cond c Comment (said_line (line_of (b ∷ line))) ≡ said_line (line_of (b ∷ line))
    by true h = cc
    by false h = refl

head_is : (line : List ℕ) (said : Line) → is_plain line ≡ true → IsLine line said → head_line line ≡ said_line said
head_is line said plain says = head_of line plain ∙ ap said_line (sym (line_is line said says))

-- what the rows did with a line
pub line_taken : (r : Result Bool RowError) (line : List ℕ) (old new : TableRows) → is_plain line ≡ true → IsLineTaken r line old new → TakesLine (taken_line r) line old new
line_taken (Ok true) line old new plain (row, says, takes) = inr (row, head_is line (GivesRow row) plain says, takes)
line_taken (Ok false) line old new plain (says, same) = (head_is line Nothing plain says, same)
line_taken (Err (error.Row why)) line old new plain ((row, says, takes), same) = (row, head_is line (GivesRow row) plain says, takes)
line_taken (Err error.NoRow) line old new plain ((request, says, long), same) = (head_is line (Requests request) plain says, same)
line_taken (Err error.LongLine) line old new plain ((request, says, long), same) = (head_is line (Requests request) plain says, same)
line_taken (Err error.NoMemory) line old new plain h = tt

-- a line of more than 65536 bytes is no row line
pub long_dated : (line : List ℕ) → is_plain line ≡ true → nat_lt 65536 (length line) ≡ true → head_line line ≡ Dated
long_dated line plain long = head_of line plain ∙ by (is_silent line) (nat_lt 512 (length line)) (grind (arith, nat_tests))
  where
    by : (silent over : Bool) → over ≡ true → said_line (cond silent Nothing (cond over (Requests Long) (said_by (strip_carriage_return line)))) ≡ Dated
    by true over h = refl
    by false true h = refl
    by false false h = cc

-- a line, by the first byte that the buffer holds
pub comment_line : (whole text : List ℕ) → text ≡ take 65536 whole → (length text == 0) ≡ false → slice_index text 0 ≡ 35 → head_line whole ≡ Comment
comment_line [] text is some first = absurd (none (sym (ap (λ (t : List ℕ). length t == 0) is) ∙ some))
  where
    none : ◌≡◌ {A = Bool} true false → ⊥
    none e = cc
comment_line (b ∷ line) text is some first =
    let same : b ≡ 35 = sym (ap (λ (t : List ℕ). slice_index t 0) is) ∙ first in
    ap (λ (x : ℕ). head_line (x ∷ line)) same

pub plain_line : (whole text : List ℕ) → text ≡ take 65536 whole → (length text == 0) ≡ false → (slice_index text 0 ≡ 35 → ⊥) → is_plain whole ≡ true
plain_line [] text is some first = absurd (none (sym (ap (λ (t : List ℕ). length t == 0) is) ∙ some))
  where
    none : ◌≡◌ {A = Bool} true false → ⊥
    none e = cc
plain_line (b ∷ line) text is some first =
    ⊎_elim
    (λ (same : ((b == 35) ≡ true) × (b ≡ 35)). absurd (first (ap (λ (t : List ℕ). slice_index t 0) is ∙ same.1)))
    (λ (other : ((b == 35) ≡ false) × (b ≡ 35 → ⊥)). ap not other.0)
    (eqb_tells b 35)

pub some_of : (whole text : List ℕ) → text ≡ take 65536 whole → (length text == 0) ≡ false → whole ≡ [] → ⊥
some_of whole text is some none = differ (sym (ap (λ (t : List ℕ). length t == 0) (is ∙ ap (take 65536) none)) ∙ some)
  where
    differ : ◌≡◌ {A = Bool} true false → ⊥
    differ e = cc

pub empty_dated : (line : List ℕ) → line ≡ [] → head_line line ≡ Dated
empty_dated line e = ap head_line e

-- a row line is refused by its number
abbrev pub RefusedAt : ℕ → List ℕ → Status → RowFault → Type 0
RefusedAt n text status why = (text ≡ row_refusal n why) × (status ≡ TableRefused)

-- one line more
at_line : (a : ConvertAsked) (whole : Bool) (rows next : TableRows) (n : ℕ) (line : List ℕ) (more : List (List ℕ)) (text : List ℕ) (status : Status) → TakesLine head.GoesOn line rows next → SaysFrom a whole next (counted_on n) more text status → SaysFrom a whole rows n (line ∷ more) text status
at_line a whole rows next n line more text status (inl (is, same)) h =
    subst (λ (y : HeadLine). AtLine y rows (λ r. SaysFrom a whole r (counted_on n) more text status) (RefusedAt n text status) (OverTables (Converts a (line ∷ more)) rows text status)) (sym is) (subst (λ (r : TableRows). SaysFrom a whole r (counted_on n) more text status) same h)
at_line a whole rows next n line more text status (inr (row, is, takes)) h =
    subst (λ (y : HeadLine). AtLine y rows (λ r. SaysFrom a whole r (counted_on n) more text status) (RefusedAt n text status) (OverTables (Converts a (line ∷ more)) rows text status)) (sym is) (Kept next, takes, h)

pub head_push : (lines : List (List ℕ)) (line : List ℕ) (rows next : TableRows) (n : ℕ) → AreHead lines rows n → TakesLine head.GoesOn line rows next → AreHead (lines ++ line ∷ []) next (counted_on n)
head_push lines line rows next n h takes a whole more text status says =
    subst (λ (y : List (List ℕ)). SaysFrom a whole no_rows 1 y text status) (sym (append_assoc lines (line ∷ []) more))
    (h a whole (line ∷ more) text status (at_line a whole rows next (counted_on n) line more text status takes says))

-- a row line that is refused
pub head_refused : (lines others : List (List ℕ)) (line : List ℕ) (rows : TableRows) (n : ℕ) (why : RowFault) → AreHead lines rows n → (row : Option Row) × (head_line line ≡ RowLine row) × TakesRow rows row (Faulty why)
    → (a : ConvertAsked) (whole : Bool) → SaysFrom a whole no_rows 1 ((lines ++ line ∷ []) ++ others) (row_refusal (counted_on n) why) TableRefused
head_refused lines others line rows n why h (row, is, takes) a whole =
    subst (λ (y : List (List ℕ)). SaysFrom a whole no_rows 1 y (row_refusal (counted_on n) why) TableRefused) (sym (append_assoc lines (line ∷ []) others))
    (h a whole (line ∷ others) (row_refusal (counted_on n) why) TableRefused
    (subst (λ (y : HeadLine). AtLine y rows (λ r. SaysFrom a whole r (counted_on (counted_on n)) others (row_refusal (counted_on n) why) TableRefused) (RefusedAt (counted_on n) (row_refusal (counted_on n) why) TableRefused) (OverTables (Converts a (line ∷ others)) rows (row_refusal (counted_on n) why) TableRefused)) (sym is) (Faulty why, takes, (refl, refl))))

-- the lines that were given are the first of all
pub given_all : (r : LineReader) (bytes : List ℕ) (lines : List (List ℕ)) (rest : List ℕ) → IsAt r bytes lines rest → (others : List (List ℕ)) × (closed_lines bytes ≡ lines ++ others)
given_all r bytes lines rest m =
    let (others, e) = closed_lines-prefix m.looked (unseen r.chunk r.at r.end) in
    (others, ap closed_lines (sym m.parts) ∙ (e ∙ ap (λ y. y ++ others) m.given))

-- the lines of a whole input
pub all_lines : (bytes : List ℕ) → lines_in bytes true ≡ closed_lines bytes ++ open_lines (open_line bytes)
all_lines bytes = by (closed_lines bytes) (open_line bytes)
  where
    by : (closed : List (List ℕ)) (o : List ℕ) → cond (nat_lt 0 (length o)) (closed ++ o ∷ []) closed ≡ closed ++ open_lines o
    by closed [] = sym (append-nil closed)
    by closed (b ∷ line) = ap (λ t. cond t (closed ++ (b ∷ line) ∷ []) closed) (lt-ltb 0 (length (b ∷ line)) (omega arith))

pub open_one : (o : List ℕ) → (o ≡ [] → ⊥) → open_lines o ≡ o ∷ []
open_one [] some = absurd (some refl)
open_one (b ∷ line) some = refl

-- before anything is read
pub heading_begins : (left : Option (List ℕ)) (r : LineReader) (line : LongLine) (rows : TableRows) → Consumes left left [] → IsAt r [] [] [] → Holds line [] → rows ≡ no_rows → IsHeading left left r line rows 0 0
heading_begins left r line rows none at holds is = record {
  bytes = [];
  lines = [];
  rest = [];
  took = none;
  some = omega arith;
  at = at;
  holds = holds;
  are_head = subst (λ (x : TableRows). AreHead [] x 0) (sym is) (λ a whole more text status h. h);
}

module _ (left l : Option (List ℕ)) (r : LineReader) (line : LongLine) (rows : TableRows) (n reads : ℕ) (h : IsHeading left l r line rows n reads) where
  module _ (q : LineReader) (buffer : LongLine) (f : GivesLine q buffer h.bytes h.lines) where
    pub line_headed : (cleared : LongLine) (next : TableRows) (count : ℕ) → count ≡ counted_on n → TakesLine head.GoesOn f.line rows next → Holds cleared [] → IsHeading left l q cleared next count reads
    line_headed cleared next count is takes empty = record {
      bytes = h.bytes;
      lines = h.lines ++ f.line ∷ [];
      rest = [];
      took = h.took;
      some = h.some;
      at = f.at;
      holds = empty;
      are_head = subst (λ (k : ℕ). AreHead (h.lines ++ f.line ∷ []) next k) (sym is) (head_push h.lines f.line rows next n h.are_head takes);
    }

    pub met_date : (next : TableRows) → (head_line f.line ≡ Dated) × (next ≡ rows) → MetDate left l q buffer next
    met_date next (is, same) = record {
      bytes = h.bytes;
      lines = h.lines;
      number = n;
      whole = f.line;
      took = h.took;
      at = f.at;
      holds = f.holds;
      dated = is;
      are_head = subst (λ (x : TableRows). AreHead h.lines x n) (sym same) h.are_head;
    }

    pub row_refused : (count : ℕ) (why : RowFault) → count ≡ counted_on n → (row : Option Row) × (head_line f.line ≡ RowLine row) × TakesRow rows row (Faulty why) → Said left l false (row_refusal count why) TableRefused
    row_refused count why is refuses =
        let (others, all) = given_all q h.bytes (h.lines ++ f.line ∷ []) [] f.at in
        record {
          bytes = h.bytes;
          took = h.took;
          at_end = λ no. cc;
          says = λ a.
              subst (λ (k : ℕ). SaysConvert a h.bytes false (row_refusal k why) TableRefused) (sym is)
              (subst (λ (y : List (List ℕ)). SaysFrom a false no_rows 1 y (row_refusal (counted_on n) why) TableRefused) (sym all) (head_refused h.lines others f.line rows n why h.are_head refuses a false));
        }

  pub chunk_headed : (q : LineReader) (buffer : LongLine) → GivesAll q buffer h.bytes h.lines → IsSpent q → HasHeaded left l q buffer rows n reads
  chunk_headed q buffer f spent = record {
    heading = record {
      bytes = h.bytes;
      lines = h.lines;
      rest = open_line h.bytes;
      took = h.took;
      some = h.some;
      at = f.at;
      holds = f.holds;
      are_head = h.are_head;
    };
    spent = spent;
    closed = sym f.all;
    rest_open = refl;
  }

module _ (left l : Option (List ℕ)) (r : LineReader) (line : LongLine) (rows : TableRows) (n reads : ℕ) (h : HasHeaded left l r line rows n reads) where
  -- no line came but those of the head
  pub only_head : Said left l false [] Done
  only_head = record {
    bytes = h.heading.bytes;
    took = h.heading.took;
    at_end = λ no. cc;
    says = λ a. subst (λ (y : List (List ℕ)). SaysFrom a false no_rows 1 y [] Done) (append-nil h.heading.lines ∙ h.closed) (h.heading.are_head a false [] [] Done (refl, refl));
  }

  pub too_many : reads ≡ most_reads → (said : Said left l false [] Done) × (most_reads ≤ length said.bytes)
  unfolding only_head
  too_many all = (only_head, omega (arith, all, h.heading.some))

  pub more_read : (l2 : Option (List ℕ)) (q : LineReader) (x : List ℕ) (count : ℕ) → count ≡ reads + 1 → 0 < length x → Consumes l l2 x → IsAt q (h.heading.bytes ++ x) h.heading.lines h.heading.rest → IsHeading left l2 q line rows n count
  more_read l2 q x count is some took at = record {
    bytes = h.heading.bytes ++ x;
    lines = h.heading.lines;
    rest = h.heading.rest;
    took = Consumes-trans left l l2 h.heading.bytes x h.heading.took took;
    some = omega (arith, is, some, h.heading.some, length-append h.heading.bytes x);
    at = at;
    holds = h.heading.holds;
    are_head = h.heading.are_head;
  }

  pub head_kept : (l2 : Option (List ℕ)) → Keeps l l2 → Said left l2 false [] Done
  unfolding only_head
  head_kept l2 keeps = record {
    bytes = h.heading.bytes;
    took = Consumes-kept left l l2 h.heading.bytes h.heading.took keeps;
    at_end = λ no. cc;
    says = only_head.says;
  }

  module _ (l2 : Option (List ℕ)) (took : Consumes l l2 []) (end : IsAtEnd l2) where
    took_all : Consumes left l2 h.heading.bytes
    took_all = consumes_end left l l2 h.heading.bytes h.heading.took took

    lines_are : lines_in h.heading.bytes true ≡ h.heading.lines ++ open_lines h.heading.rest
    lines_are = all_lines h.heading.bytes ∙ (ap (λ y. y ++ open_lines (open_line h.heading.bytes)) (sym h.closed) ∙ ap (λ (y : List ℕ). h.heading.lines ++ open_lines y) (sym h.rest_open))

    one_more : (h.heading.rest ≡ [] → ⊥) → lines_in h.heading.bytes true ≡ h.heading.lines ++ h.heading.rest ∷ []
    one_more some = lines_are ∙ ap (λ y. h.heading.lines ++ y) (open_one h.heading.rest some)

    pub ends_closed : h.heading.rest ≡ [] → MetHeadEnd left l2 rows
    ends_closed none = record {
      bytes = h.heading.bytes;
      number = n;
      took = took_all;
      at_end = end;
      are_head = subst (λ (y : List (List ℕ)). AreHead y rows n) (sym (lines_are ∙ (ap (λ (y : List ℕ). h.heading.lines ++ open_lines y) none ∙ append-nil h.heading.lines))) h.heading.are_head;
    }

    pub ends_open : (h.heading.rest ≡ [] → ⊥) → (next : TableRows) → TakesLine head.GoesOn h.heading.rest rows next → MetHeadEnd left l2 next
    ends_open some next takes = record {
      bytes = h.heading.bytes;
      number = counted_on n;
      took = took_all;
      at_end = end;
      are_head = subst (λ (y : List (List ℕ)). AreHead y next (counted_on n)) (sym (one_more some)) (head_push h.heading.lines h.heading.rest rows next n h.heading.are_head takes);
    }

    pub ends_dated : (h.heading.rest ≡ [] → ⊥) → (next : TableRows) → (head_line h.heading.rest ≡ Dated) × (next ≡ rows) → MetLastDate left l2 line next
    ends_dated some next (is, same) = record {
      bytes = h.heading.bytes;
      lines = h.heading.lines;
      number = n;
      whole = h.heading.rest;
      took = took_all;
      at_end = end;
      all = one_more some;
      some = some;
      holds = h.heading.holds;
      dated = is;
      are_head = subst (λ (x : TableRows). AreHead h.heading.lines x n) (sym same) h.heading.are_head;
    }

    pub ends_refused : (h.heading.rest ≡ [] → ⊥) → (count : ℕ) (why : RowFault) → count ≡ counted_on n → (row : Option Row) × (head_line h.heading.rest ≡ RowLine row) × TakesRow rows row (Faulty why) → Said left l2 true (row_refusal count why) TableRefused
    ends_refused some count why is refuses = record {
      bytes = h.heading.bytes;
      took = took_all;
      at_end = λ yes. end;
      says = λ a.
          subst (λ (k : ℕ). SaysConvert a h.heading.bytes true (row_refusal k why) TableRefused) (sym is)
          (subst (λ (y : List (List ℕ)). SaysFrom a true no_rows 1 y (row_refusal (counted_on n) why) TableRefused) (append-nil (h.heading.lines ++ h.heading.rest ∷ []) ∙ sym (one_more some))
          (head_refused h.heading.lines [] h.heading.rest rows n why h.heading.are_head refuses a true));
    }
