-- A run of `convert` behind the head of its input.
use Rattle.std.proofs.Common.{◌≡◌, ℕ, ◌+◌, ◌<◌, ◌≤◌, ◌||◌, Bool, true, false, List, [], ◌∷◌, ◌++◌, length, Option, inl, inr, Result, Ok, Err, true≢false, refl, arith, ◌∙◌, sym, ap, subst}
use Rattle.std.proofs.lemmas.List.{append-nil, append_assoc, length-append}
use Rattle.std.specs.Io.KnownBytes.{Appends, Consumes, IsAtEnd, Keeps}
use Rattle.std.proofs.KnownBytes.{Consumes-kept, Consumes-trans}
use Rattle.std.specs.Result.{IsErr}
use Rattle.byte_io.specs.declared.Failed.{Failed}
use Rattle.byte_io.specs.Faults.{Rose, counted_on}
use Rattle.byte_io.specs.Lines.{closed_lines, lines_in, open_line}
use Rattle.long_lines.specs.Buffer.{Holds}
use Rattle.long_lines.specs.Reader.{GivesAll, GivesLine, IsAt, IsSpent}
use Rattle.long_lines.specs.declared.buffer.LongLine.{LongLine}
use Rattle.long_lines.specs.declared.reader.LineReader.{LineReader}
use Rattle.cal_errors.specs.declared.errors.TableFault.{TableFault}
use Rattle.cal_tables.specs.Kinds.{TableContents}
use Rattle.table_rows.specs.TableRows.{AreAccepted, IsFirstRefused, TableRows, contents_of, no_rows}
use Rattle.table_rows.specs.declared.table.Table.{Table}
use Rattle.table_rows.proofs.InputLemmas.{consumes_end}
use Rattle.calspan_run.specs.BehindRows.{OverTables, RefusesTables}
use Rattle.command_line.specs.ConvertAsked.{ConvertAsked}
use Rattle.calspan_run.specs.Converted.{is_bad, line_text}
use Rattle.calspan_run.specs.ConvertTexts.{AtEnd, AtLine, Converts, Dated, HeadLine, SaysConvert, SaysFrom, any_bad, head_line}
use Rattle.calspan_run.specs.Converting.{ConvertsChunk, ConvertsTo, HasConverted, IsConverting, open_lines}
use Rattle.calspan_run.specs.Endings.{EndsWith, IsEnd}
use Rattle.calspan_run.specs.Heading.{AreHead, MetDate, MetHeadEnd, MetLastDate, Said}
use Rattle.calspan_run.specs.Refusals.{status_of}
use Rattle.calspan_run.specs.Run.{Outside, outside}
use Rattle.calspan_run.specs.Serving.{Rules, StoppedReading, StoppedWriting}
use Rattle.calspan_run.specs.Streaming.{StreamAnswered, StreamTooLong, Streams, convert_rules, most_reads}
use Rattle.calspan_run.specs.TableTexts.{table_refusal}
use Rattle.calspan_run.specs.TextSoFar.{TextSoFar, lines_text}
use Rattle.calspan_run.specs.Written.{WrotePrefix}
use Rattle.calspan_run.specs.declared.status.Status.{Status}
use Rattle.calspan_run.specs.declared.status.Status.TheVariants.{Done, TableRefused, WriteFault}
use Rattle.calspan_run.proofs.ConvertHeadLemmas.{RefusedAt, all_lines, given_all, open_one}
use Rattle.calspan_run.proofs.KnownLemmas.{appends_none}
use Rattle.calspan_run.proofs.WriterLemmas.{short_more, text_all}

-- these bytes were taken, and a run may end with this text and status
pub record MayStream (c : Rules) (left now : Option (List ℕ)) (text : List ℕ) (status : Status) : Type 0 where
  pub bytes : List ℕ
  pub whole : Bool
  pub took : Consumes left now bytes
  pub says : c.Says bytes whole text status
  pub at_end : whole ≡ true → IsAtEnd now
  pub at_line : whole ≡ false → c.EndsAtLine status

module _ (c : Rules) (left l t t2 : Option (List ℕ)) (faults reads w w2 : ℕ) (text : List ℕ) (status : Status) (h : MayStream c left l text status) where
  answered : Appends t t2 text → StreamAnswered c (outside left t faults w) (outside l t2 reads w2) status
  answered wrote = record {
    bytes = h.bytes;
    text = text;
    whole = h.whole;
    exchanged = record { took = h.took; wrote = wrote };
    says = h.says;
    at_end = h.at_end;
    at_line = h.at_line;
  }

  serves : IsEnd status → Appends t t2 text → Streams c status (outside left t faults w) (outside l t2 reads w2)
  serves end wrote = by status end (answered wrote)
    where
      by : (s : Status) → IsEnd s → StreamAnswered c (outside left t faults w) (outside l t2 reads w2) s → Streams c s (outside left t faults w) (outside l t2 reads w2)
      by s (inl e) a = subst (λ (x : Status). Streams c x (outside left t faults w) (outside l t2 reads w2)) (sym e) (subst (λ (x : Status). StreamAnswered c (outside left t faults w) (outside l t2 reads w2) x) e a)
      by s (inr (inl e)) a = subst (λ (x : Status). Streams c x (outside left t faults w) (outside l t2 reads w2)) (sym e) (subst (λ (x : Status). StreamAnswered c (outside left t faults w) (outside l t2 reads w2) x) e a)
      by s (inr (inr e)) a = subst (λ (x : Status). Streams c x (outside left t faults w) (outside l t2 reads w2)) (sym e) (subst (λ (x : Status). StreamAnswered c (outside left t faults w) (outside l t2 reads w2) x) e a)

  stopped : WrotePrefix t t2 text → Rose w w2 → StoppedWriting c (outside left t faults w) (outside l t2 reads w2)
  stopped (prefix, wrote, begins) rose = record {
    bytes = h.bytes;
    prefix = prefix;
    text = text;
    whole = h.whole;
    status = status;
    rose = rose;
    exchanged = record { took = h.took; wrote = wrote };
    begins = begins;
    says = h.says;
    at_end = h.at_end;
  }

  -- the last text of a run was written, or a prefix of it
  pub ends_stream : (result : Status) (m : ℕ) → IsEnd status → w ≤ m → EndsWith result status t t2 m w2 text → Streams c result (outside left t faults w) (outside l t2 reads w2)
  ends_stream result m end later (inl (e, wrote)) = subst (λ (x : Status). Streams c x (outside left t faults w) (outside l t2 reads w2)) (sym e) (serves end wrote)
  ends_stream result m end later (inr (e, wrote, rose)) = subst (λ (x : Status). Streams c x (outside left t faults w) (outside l t2 reads w2)) (sym e) (stopped wrote (omega (arith, later, rose)))

pub is_end : (bad : Bool) → IsEnd (status_of bad)
is_end true = inr (inl refl)
is_end false = inl refl

pub goes_on : (bad : Bool) → status_of bad ≡ TableRefused → ⊥
goes_on true e = cc
goes_on false e = cc

-- one answer more
pub converts_push : (a : ConvertAsked) (rows : TableRows) (lines : List (List ℕ)) (line text : List ℕ) (bad : Bool) → ConvertsTo a rows lines text bad
    → ConvertsTo a rows (lines ++ line ∷ []) (text ++ line_text a (contents_of rows) line) (bad || is_bad a (contents_of rows) line)
converts_push a rows lines line text bad h whole more =
    let t = contents_of rows in
    let status = status_of (any_bad a t (bad || is_bad a t line) more) in
    subst (λ (y : List (List ℕ)). SaysFrom a whole no_rows 1 y ((text ++ line_text a t line) ++ lines_text (line_text a t) more) status) (sym (append_assoc lines (line ∷ []) more))
    (subst (λ (x : List ℕ). SaysFrom a whole no_rows 1 (lines ++ line ∷ more) x status) (sym (append_assoc text (line_text a t line) (lines_text (line_text a t) more))) (h whole (line ∷ more)))

-- at the first line with a date
pub converts_first : (a : ConvertAsked) (rows : TableRows) (lines : List (List ℕ)) (line : List ℕ) (n : ℕ) → AreHead lines rows n → head_line line ≡ Dated → AreAccepted rows
    → ConvertsTo a rows (lines ++ line ∷ []) (line_text a (contents_of rows) line) (is_bad a (contents_of rows) line)
converts_first a rows lines line n h dated accepted whole more =
    let t = contents_of rows in
    let text = line_text a t line ++ lines_text (line_text a t) more in
    let status = status_of (any_bad a t (is_bad a t line) more) in
    subst (λ (y : List (List ℕ)). SaysFrom a whole no_rows 1 y text status) (sym (append_assoc lines (line ∷ []) more))
    (h a whole (line ∷ more) text status (subst (λ (y : HeadLine). AtLine y rows (λ r. SaysFrom a whole r (counted_on (counted_on n)) more text status) (RefusedAt (counted_on n) text status) (OverTables (Converts a (line ∷ more)) rows text status)) (sym dated) (inl (accepted, (refl, refl)))))

-- the tables are refused at the first line with a date
pub refused_first : (a : ConvertAsked) (rows : TableRows) (lines others : List (List ℕ)) (line text : List ℕ) (n : ℕ) (whole : Bool) → AreHead lines rows n → head_line line ≡ Dated → RefusesTables rows text
    → SaysFrom a whole no_rows 1 (lines ++ line ∷ others) text TableRefused
refused_first a rows lines others line text n whole h dated refuses =
    h a whole (line ∷ others) text TableRefused (subst (λ (y : HeadLine). AtLine y rows (λ r. SaysFrom a whole r (counted_on (counted_on n)) others text TableRefused) (RefusedAt (counted_on n) text TableRefused) (OverTables (Converts a (line ∷ others)) rows text TableRefused)) (sym dated) (inr (refuses, refl)))

-- lines that are answered, of an input that goes on by others
pub said_lines : (a : ConvertAsked) (rows : TableRows) (bytes : List ℕ) (whole : Bool) (lines others : List (List ℕ)) (text : List ℕ) (bad : Bool) → lines_in bytes whole ≡ lines ++ others → ConvertsTo a rows lines text bad
    → SaysConvert a bytes whole (text ++ lines_text (line_text a (contents_of rows)) others) (status_of (any_bad a (contents_of rows) bad others))
said_lines a rows bytes whole lines others text bad all h =
    subst (λ (y : List (List ℕ)). SaysFrom a whole no_rows 1 y (text ++ lines_text (line_text a (contents_of rows)) others) (status_of (any_bad a (contents_of rows) bad others))) (sym all) (h whole others)

said_all : (a : ConvertAsked) (rows : TableRows) (bytes : List ℕ) (lines : List (List ℕ)) (text : List ℕ) (bad : Bool) → lines ≡ closed_lines bytes → ConvertsTo a rows lines text bad → SaysConvert a bytes false text (status_of bad)
said_all a rows bytes lines text bad all h =
    subst (λ (x : List ℕ). SaysConvert a bytes false x (status_of bad)) (append-nil text) (said_lines a rows bytes false lines [] text bad (sym all ∙ sym (append-nil lines)) h)

module _ (a : ConvertAsked) (rows : TableRows) (old : Outside) (l t : Option (List ℕ)) (r w : ℕ) (reader : LineReader) (line : LongLine) (pending : List ℕ) (bad : Bool) (reads : ℕ)
    (h : IsConverting a rows old (outside l t r w) reader line pending bad reads) where
  -- the next line was answered
  pub line_on : (t2 : Option (List ℕ)) (w2 : ℕ) (q : LineReader) (buffer cleared : LongLine) (new : List ℕ) (this : Bool) → (f : GivesLine q buffer h.bytes h.lines) → this ≡ is_bad a (contents_of rows) f.line
      → TextSoFar old.taken t2 new (h.text ++ line_text a (contents_of rows) f.line) → Holds cleared [] → w ≤ w2 → IsConverting a rows old (outside l t2 r w2) q cleared new (bad || this) reads
  line_on t2 w2 q buffer cleared new this f is so_far empty later = record {
    bytes = h.bytes;
    lines = h.lines ++ f.line ∷ [];
    rest = [];
    text = h.text ++ line_text a (contents_of rows) f.line;
    took = h.took;
    some = h.some;
    at = f.at;
    holds = empty;
    so_far = so_far;
    converts = subst (λ (b : Bool). ConvertsTo a rows (h.lines ++ f.line ∷ []) (h.text ++ line_text a (contents_of rows) f.line) (bad || b)) (sym is) (converts_push a rows h.lines f.line h.text bad h.converts);
    read_later = h.read_later;
    write_later = omega (arith, h.write_later, later);
  }

  -- a write failed behind the next line
  pub line_stopped : (t2 : Option (List ℕ)) (w2 : ℕ) (q : LineReader) (buffer : LongLine) → (f : GivesLine q buffer h.bytes h.lines) → Rose w w2 → WrotePrefix old.taken t2 (h.text ++ line_text a (contents_of rows) f.line) → StoppedWriting (convert_rules a) old (outside l t2 r w2)
  line_stopped t2 w2 q buffer f rose short =
      let (others, all) = given_all q h.bytes (h.lines ++ f.line ∷ []) [] f.at in
      let text = h.text ++ line_text a (contents_of rows) f.line in
      let more = lines_text (line_text a (contents_of rows)) others in
      let (prefix, wrote, begins) = short_more old.taken t2 text more short in
      let now = bad || is_bad a (contents_of rows) f.line in
      record {
        bytes = h.bytes;
        prefix = prefix;
        text = text ++ more;
        whole = false;
        status = status_of (any_bad a (contents_of rows) now others);
        rose = omega (arith, h.write_later, rose);
        exchanged = record { took = h.took; wrote = wrote };
        begins = begins;
        says = said_lines a rows h.bytes false (h.lines ++ f.line ∷ []) others text now all (converts_push a rows h.lines f.line h.text bad h.converts);
        at_end = λ no. cc;
      }

  -- all lines of the chunk were answered
  pub chunk_done : (q : LineReader) (buffer : LongLine) → GivesAll q buffer h.bytes h.lines → IsSpent q → HasConverted a rows old (outside l t r w) q buffer pending bad reads
  chunk_done q buffer f spent = record {
    converting = record {
      bytes = h.bytes;
      lines = h.lines;
      rest = open_line h.bytes;
      text = h.text;
      took = h.took;
      some = h.some;
      at = f.at;
      holds = f.holds;
      so_far = h.so_far;
      converts = h.converts;
      read_later = h.read_later;
      write_later = h.write_later;
    };
    spent = spent;
    closed = sym f.all;
    rest_open = refl;
  }

module _ (a : ConvertAsked) (rows : TableRows) (old : Outside) (l t : Option (List ℕ)) (r w : ℕ) (reader : LineReader) (line : LongLine) (pending : List ℕ) (bad : Bool) (reads : ℕ)
    (h : HasConverted a rows old (outside l t r w) reader line pending bad reads) where
  said : SaysConvert a h.converting.bytes false h.converting.text (status_of bad)
  said = said_all a rows h.converting.bytes h.converting.lines h.converting.text bad h.closed h.converting.converts

  -- a write failed
  pub flush_stopped : (t2 : Option (List ℕ)) (w2 : ℕ) → Rose w w2 → WrotePrefix old.taken t2 h.converting.text → StoppedWriting (convert_rules a) old (outside l t2 r w2)
  flush_stopped t2 w2 rose (prefix, wrote, begins) = record {
    bytes = h.converting.bytes;
    prefix = prefix;
    text = h.converting.text;
    whole = false;
    status = status_of bad;
    rose = omega (arith, h.converting.write_later, rose);
    exchanged = record { took = h.converting.took; wrote = wrote };
    begins = begins;
    says = said;
    at_end = λ no. cc;
  }

  -- the next chunk was read
  pub chunk_on : (l2 t2 : Option (List ℕ)) (r2 w2 : ℕ) (q : LineReader) (none x : List ℕ) (count : ℕ) → count ≡ reads + 1 → 0 < length x → TextSoFar old.taken t2 none h.converting.text → Consumes l l2 x → IsAt q (h.converting.bytes ++ x) h.converting.lines h.converting.rest
      → r ≤ r2 → w ≤ w2 → IsConverting a rows old (outside l2 t2 r2 w2) q line none bad count
  chunk_on l2 t2 r2 w2 q none x count is some so_far took at read write = record {
    bytes = h.converting.bytes ++ x;
    lines = h.converting.lines;
    rest = h.converting.rest;
    text = h.converting.text;
    took = Consumes-trans old.left l l2 h.converting.bytes x h.converting.took took;
    some = omega (arith, is, some, h.converting.some, length-append h.converting.bytes x);
    at = at;
    holds = h.converting.holds;
    so_far = so_far;
    converts = h.converting.converts;
    read_later = omega (arith, h.converting.read_later, read);
    write_later = omega (arith, h.converting.write_later, write);
  }

  -- a read failed
  pub read_stopped : (l2 t2 : Option (List ℕ)) (r2 w2 : ℕ) (none : List ℕ) → TextSoFar old.taken t2 none h.converting.text → none ≡ [] → Keeps l l2 → Rose r r2 → StoppedReading (convert_rules a) old (outside l2 t2 r2 w2)
  read_stopped l2 t2 r2 w2 none so_far e keeps rose = record {
    bytes = h.converting.bytes;
    text = h.converting.text;
    status = status_of bad;
    rose = omega (arith, h.converting.read_later, rose);
    exchanged = record { took = Consumes-kept old.left l l2 h.converting.bytes h.converting.took keeps; wrote = text_all old.taken t2 none h.converting.text so_far e };
    says = said;
    goes_on = goes_on bad;
  }

  -- as many chunks came as are read
  pub too_long : (t2 : Option (List ℕ)) (r2 w2 : ℕ) (none : List ℕ) → reads ≡ most_reads → TextSoFar old.taken t2 none h.converting.text → none ≡ [] → StreamTooLong (convert_rules a) old (outside l t2 r2 w2)
  too_long t2 r2 w2 none all so_far e = record {
    bytes = h.converting.bytes;
    text = h.converting.text;
    status = status_of bad;
    more = omega (arith, all, h.converting.some);
    exchanged = record { took = h.converting.took; wrote = text_all old.taken t2 none h.converting.text so_far e };
    says = said;
    goes_on = goes_on bad;
  }

  -- the input came to its end
  pub input_ends : (l2 : Option (List ℕ)) → Consumes l l2 [] → IsAtEnd l2
      → MayStream (convert_rules a) old.left l2 (h.converting.text ++ lines_text (line_text a (contents_of rows)) (open_lines h.converting.rest)) (status_of (any_bad a (contents_of rows) bad (open_lines h.converting.rest)))
  input_ends l2 took end = record {
    bytes = h.converting.bytes;
    whole = true;
    took = consumes_end old.left l l2 h.converting.bytes h.converting.took took;
    says = said_lines a rows h.converting.bytes true h.converting.lines (open_lines h.converting.rest) h.converting.text bad
        (all_lines h.converting.bytes ∙ (ap (λ y. y ++ open_lines (open_line h.converting.bytes)) (sym h.closed) ∙ ap (λ (y : List ℕ). h.converting.lines ++ open_lines y) (sym h.rest_open))) h.converting.converts;
    at_end = λ yes. end;
    at_line = λ no. cc;
  }

-- at the first line with a date
module _ (a : ConvertAsked) (rows : TableRows) (left l : Option (List ℕ)) (reader : LineReader) (line : LongLine) (h : MetDate left l reader line rows) where
  pub first_refused : (table : Table) (fault : TableFault) → IsFirstRefused rows table fault → MayStream (convert_rules a) left l (table_refusal table fault) TableRefused
  first_refused table fault first =
      let (others, all) = given_all reader h.bytes (h.lines ++ h.whole ∷ []) [] h.at in
      record {
        bytes = h.bytes;
        whole = false;
        took = h.took;
        says = subst (λ (y : List (List ℕ)). SaysFrom a false no_rows 1 y (table_refusal table fault) TableRefused) (sym (all ∙ append_assoc h.lines (h.whole ∷ []) others))
            (refused_first a rows h.lines others h.whole (table_refusal table fault) h.number false h.are_head h.dated (table, fault, first, refl));
        at_end = λ no. cc;
        at_line = λ no. refl;
      }

  module _ (accepted : AreAccepted rows) where
    converts : ConvertsTo a rows (h.lines ++ h.whole ∷ []) (line_text a (contents_of rows) h.whole) (is_bad a (contents_of rows) h.whole)
    converts = converts_first a rows h.lines h.whole h.number h.are_head h.dated accepted

    pub first_stopped : (t t2 : Option (List ℕ)) (r r2 w w2 : ℕ) → Rose w w2 → WrotePrefix t t2 ([] ++ line_text a (contents_of rows) h.whole) → StoppedWriting (convert_rules a) (outside left t r w) (outside l t2 r2 w2)
    first_stopped t t2 r r2 w w2 rose short =
        let (others, all) = given_all reader h.bytes (h.lines ++ h.whole ∷ []) [] h.at in
        let text = line_text a (contents_of rows) h.whole in
        let more = lines_text (line_text a (contents_of rows)) others in
        let (prefix, wrote, begins) = short_more t t2 text more short in
        let bad = is_bad a (contents_of rows) h.whole in
        record {
          bytes = h.bytes;
          prefix = prefix;
          text = text ++ more;
          whole = false;
          status = status_of (any_bad a (contents_of rows) bad others);
          rose = rose;
          exchanged = record { took = h.took; wrote = wrote };
          begins = begins;
          says = said_lines a rows h.bytes false (h.lines ++ h.whole ∷ []) others text bad all converts;
          at_end = λ no. cc;
        }

    pub first_answered : (t t2 : Option (List ℕ)) (r r2 w w2 : ℕ) (cleared : LongLine) (new : List ℕ) (this : Bool) → r ≤ r2 → w ≤ w2 → this ≡ is_bad a (contents_of rows) h.whole
        → TextSoFar t t2 new ([] ++ line_text a (contents_of rows) h.whole) → Holds cleared [] → IsConverting a rows (outside left t r w) (outside l t2 r2 w2) reader cleared new this 0
    first_answered t t2 r r2 w w2 cleared new this read write is so_far empty = record {
      bytes = h.bytes;
      lines = h.lines ++ h.whole ∷ [];
      rest = [];
      text = line_text a (contents_of rows) h.whole;
      took = h.took;
      some = omega arith;
      at = h.at;
      holds = empty;
      so_far = so_far;
      converts = subst (λ (b : Bool). ConvertsTo a rows (h.lines ++ h.whole ∷ []) (line_text a (contents_of rows) h.whole) b) (sym is) converts;
      read_later = read;
      write_later = write;
    }

-- the only line with a date, which has no LF
module _ (a : ConvertAsked) (rows : TableRows) (left l : Option (List ℕ)) (line : LongLine) (h : MetLastDate left l line rows) where
  pub last_refused : (table : Table) (fault : TableFault) → IsFirstRefused rows table fault → MayStream (convert_rules a) left l (table_refusal table fault) TableRefused
  last_refused table fault first = record {
    bytes = h.bytes;
    whole = true;
    took = h.took;
    says = subst (λ (y : List (List ℕ)). SaysFrom a true no_rows 1 y (table_refusal table fault) TableRefused) (sym h.all)
        (refused_first a rows h.lines [] h.whole (table_refusal table fault) h.number true h.are_head h.dated (table, fault, first, refl));
    at_end = λ yes. h.at_end;
    at_line = λ no. cc;
  }

  last_converts : AreAccepted rows → SaysFrom a true no_rows 1 (h.lines ++ h.whole ∷ []) (lines_text (line_text a (contents_of rows)) (h.whole ∷ [])) (status_of (any_bad a (contents_of rows) false (h.whole ∷ [])))
  last_converts accepted =
      let t = contents_of rows in
      let text = lines_text (line_text a t) (h.whole ∷ []) in
      let status = status_of (any_bad a t false (h.whole ∷ [])) in
      h.are_head a true (h.whole ∷ []) text status
      (subst (λ (y : HeadLine). AtLine y rows (λ r. SaysFrom a true r (counted_on (counted_on h.number)) [] text status) (RefusedAt (counted_on h.number) text status) (OverTables (Converts a (h.whole ∷ [])) rows text status)) (sym h.dated) (inl (accepted, (refl, refl))))

  pub last_answered : AreAccepted rows → MayStream (convert_rules a) left l ([] ++ lines_text (line_text a (contents_of rows)) (open_lines h.whole)) (status_of (any_bad a (contents_of rows) false (open_lines h.whole)))
  last_answered accepted =
      let t = contents_of rows in
      record {
        bytes = h.bytes;
        whole = true;
        took = h.took;
        says = subst (λ (y : List (List ℕ)). SaysFrom a true no_rows 1 y (lines_text (line_text a t) (open_lines h.whole)) (status_of (any_bad a t false (open_lines h.whole)))) (sym h.all)
            (subst (λ (y : List (List ℕ)). SaysFrom a true no_rows 1 (h.lines ++ h.whole ∷ []) (lines_text (line_text a t) y) (status_of (any_bad a t false y))) (sym (open_one h.whole h.some)) (last_converts accepted));
        at_end = λ yes. h.at_end;
        at_line = λ no. cc;
      }

-- the head alone came
module _ (a : ConvertAsked) (rows : TableRows) (left l : Option (List ℕ)) (h : MetHeadEnd left l rows) where
  says_end : (text : List ℕ) (status : Status) → AtEnd true rows text status → SaysConvert a h.bytes true text status
  says_end text status end = subst (λ (y : List (List ℕ)). SaysFrom a true no_rows 1 y text status) (append-nil (lines_in h.bytes true)) (h.are_head a true [] text status end)

  pub none_refused : (table : Table) (fault : TableFault) → IsFirstRefused rows table fault → MayStream (convert_rules a) left l (table_refusal table fault) TableRefused
  none_refused table fault first = record {
    bytes = h.bytes;
    whole = true;
    took = h.took;
    says = says_end (table_refusal table fault) TableRefused (inr ((table, fault, first, refl), refl));
    at_end = λ yes. h.at_end;
    at_line = λ no. cc;
  }

  pub none_answered : (t : Option (List ℕ)) (r r2 w w2 : ℕ) → AreAccepted rows → StreamAnswered (convert_rules a) (outside left t r w) (outside l t r2 w2) Done
  none_answered t r r2 w w2 accepted = record {
    bytes = h.bytes;
    text = [];
    whole = true;
    exchanged = record { took = h.took; wrote = appends_none t };
    says = says_end [] Done (inl (accepted, (refl, refl)));
    at_end = λ yes. h.at_end;
    at_line = λ no. cc;
  }

-- these bytes were taken, and this is said of them
pub said_stream : (a : ConvertAsked) (left l : Option (List ℕ)) (whole : Bool) (text : List ℕ) → Said left l whole text TableRefused → MayStream (convert_rules a) left l text TableRefused
said_stream a left l whole text h = record { bytes = h.bytes; whole = whole; took = h.took; says = h.says a; at_end = h.at_end; at_line = λ no. refl }

pub said_fault : (a : ConvertAsked) (left l t : Option (List ℕ)) (r r2 w w2 : ℕ) → Rose r r2 → Said left l false [] Done → StoppedReading (convert_rules a) (outside left t r w) (outside l t r2 w2)
said_fault a left l t r r2 w w2 rose h = record {
  bytes = h.bytes;
  text = [];
  status = Done;
  rose = rose;
  exchanged = record { took = h.took; wrote = appends_none t };
  says = h.says a;
  goes_on = goes_on false;
}

pub said_too_long : (a : ConvertAsked) (left l t : Option (List ℕ)) (r r2 w w2 : ℕ) → (h : Said left l false [] Done) × (most_reads ≤ length h.bytes) → StreamTooLong (convert_rules a) (outside left t r w) (outside l t r2 w2)
said_too_long a left l t r r2 w w2 (h, more) = record {
  bytes = h.bytes;
  text = [];
  status = Done;
  more = more;
  exchanged = record { took = h.took; wrote = appends_none t };
  says = h.says a;
  goes_on = goes_on false;
}

-- where a write failed in a chunk
pub chunk_stopped : (r : Result Bool Failed) (a : ConvertAsked) (rows : TableRows) (old new : Outside) (q : LineReader) (line : LongLine) (pending : List ℕ) (reads : ℕ) → IsErr r → StoppedWriting (convert_rules a) old new → ConvertsChunk r a rows old new q line pending reads
chunk_stopped (Ok x) a rows old new q line pending reads failed h = absurd (true≢false (sym failed))
chunk_stopped (Err e) a rows old new q line pending reads failed h = h

-- the end of an input: what follows the last LF is nothing, or a line
module _ (a : ConvertAsked) (t : TableContents) (result : Status) (bad : Bool) (before now : Option (List ℕ)) (w w2 : ℕ) (text : List ℕ) where
  abbrev pub Ends : List ℕ → Type 0
  Ends last = EndsWith result (status_of (any_bad a t bad (open_lines last))) before now w w2 (text ++ lines_text (line_text a t) (open_lines last))

  pub ends_none : (last : List ℕ) → last ≡ [] → EndsWith result (status_of bad) before now w w2 text → Ends last
  ends_none last none h = subst Ends (sym none) (subst (λ (x : List ℕ). EndsWith result (status_of bad) before now w w2 x) (sym (append-nil text)) h)

  -- a line
  pub ends_some : (last : List ℕ) → (last ≡ [] → ⊥) → EndsWith result (status_of (bad || is_bad a t last)) before now w w2 (text ++ line_text a t last) → Ends last
  ends_some last some h =
      subst (λ (y : List (List ℕ)). EndsWith result (status_of (any_bad a t bad y)) before now w w2 (text ++ lines_text (line_text a t) y)) (sym (open_one last some))
      (subst (λ (x : List ℕ). EndsWith result (status_of (bad || is_bad a t last)) before now w w2 (text ++ x)) (sym (append-nil (line_text a t last))) h)

pub ends_one : (a : ConvertAsked) (t : TableContents) (result : Status) (bad now_bad : Bool) (before now : Option (List ℕ)) (w m w2 : ℕ) (text last : List ℕ) → (last ≡ [] → ⊥) → now_bad ≡ (bad || is_bad a t last) → w ≤ m
    → EndsWith result (status_of now_bad) before now m w2 (text ++ line_text a t last) → Ends a t result bad before now w w2 text last
ends_one a t result bad now_bad before now w m w2 text last some is later (inl (e, wrote)) = ends_some a t result bad before now w w2 text last some (inl (e ∙ ap status_of is, wrote))
ends_one a t result bad now_bad before now w m w2 text last some is later (inr (e, wrote, rose)) = ends_some a t result bad before now w w2 text last some (inr (e, wrote, omega (arith, later, rose)))

pub one_short : (a : ConvertAsked) (t : TableContents) (bad : Bool) (before now : Option (List ℕ)) (w w2 : ℕ) (text last : List ℕ) → (last ≡ [] → ⊥) → WrotePrefix before now (text ++ line_text a t last) → Rose w w2 → Ends a t WriteFault bad before now w w2 text last
one_short a t bad before now w w2 text last some short rose = ends_some a t WriteFault bad before now w w2 text last some (inr (refl, short, rose))
