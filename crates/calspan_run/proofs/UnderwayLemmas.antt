-- Lines behind row lines, one after another.
use Rattle.std.proofs.Common.{◌≡◌, ℕ, ◌+◌, ◌≤◌, Bool, true, false, List, [], ◌∷◌, ◌++◌, length, take, Option, inl, inr, refl, arith, ◌∙◌, sym, ap, subst}
use Rattle.std.proofs.lemmas.List.{append-nil, append_assoc, length_push, length-append, take_all}
use Rattle.std.specs.Io.KnownBytes.{Consumes, IsAtEnd, Keeps}
use Rattle.byte_io.specs.Faults.{Rose}
use Rattle.byte_io.specs.Buffer.{Holds}
use Rattle.byte_io.specs.Lines.{lines_in, open_line}
use Rattle.byte_io.specs.Reader.{IsAt, GivesLine, GivesAll, GivesTooLong, lines_given}
use Rattle.byte_io.specs.declared.buffer.LineBuffer.{LineBuffer}
use Rattle.byte_io.specs.declared.reader.Reader.{Reader}
use Rattle.byte_io.proofs.PrefixLemmas.{given_in_all, given_within}
use Rattle.request_lines.specs.Lines.{Requests, RequestLine, IsLine, line_of}
use Rattle.request_lines.proofs.LineLemmas.{line_says}
use Rattle.calspan_run.specs.Underway.{AnswersBehind, IsUnderway}
use Rattle.cal_errors.specs.declared.errors.TableFault.{TableFault}
use Rattle.calspan_run.specs.BehindRows.{OverTables}
use Rattle.calspan_run.specs.Endings.{EndsWith, IsEnd, MayEnd}
use Rattle.calspan_run.specs.Progress.{standing_of, answered_status}
use Rattle.table_rows.specs.RowLines.{AreRows, EndBefore, WithLines, AtFaultyRow, AtRequest}
use Rattle.table_rows.specs.Gathering.{with_open_line, MetEnd, MetFaulty, MetLast, MetOther, MetRequest, Stops}
use Rattle.calspan_run.specs.Rules.{span_rules}
use Rattle.calspan_run.specs.Run.{Outside, outside, limit}
use Rattle.calspan_run.specs.Serving.{StoppedReading, StoppedWriting, TookTooMuch, Serves}
use Rattle.calspan_run.specs.Answers.{Standing, Answering, Ended, IsAnswerTo, AreAnswers, IsAnswers, span_behind, status_at}
use Rattle.table_rows.specs.TableRows.{TableRows, contents_of, AreAccepted, IsFirstRefused}
use Rattle.calspan_run.specs.TableTexts.{row_refusal, table_refusal}
use Rattle.calspan_run.specs.TextSoFar.{TextSoFar}
use Rattle.calspan_run.specs.Written.{WrotePrefix}
use Rattle.calspan_run.specs.declared.span.answers.Answered.{Answered}
use Rattle.calspan_run.specs.declared.span.answers.Answered.TheVariants.{GoesOn, Stopped}
use Rattle.calspan_run.specs.Status.{stop_status}
use Rattle.table_rows.specs.declared.gathering.Stop.{Stop}
use Rattle.table_rows.specs.declared.gathering.Stop.TheVariants as stop
use Rattle.calspan_run.specs.declared.status.Status.{Status}
use Rattle.calspan_run.specs.declared.status.Status.TheVariants.{Done, TableRefused}
use Rattle.table_rows.specs.declared.table.RowFault.{RowFault}
use Rattle.table_rows.specs.declared.table.Table.{Table}
use Rattle.table_rows.proofs.GatheringLemmas.{open_line_is, not_request}
use Rattle.std.proofs.KnownBytes.{Consumes-kept, Consumes-trans}
use Rattle.calspan_run.proofs.KnownLemmas.{appends_none, prefix_then}
use Rattle.calspan_run.proofs.EndLemmas.{ends_serve}
use Rattle.table_rows.proofs.InputLemmas.{consumes_end, lines_in-whole}
use Rattle.calspan_run.proofs.AnswerLemmas.{answers_append, span_exists, lines_exist, ended_append, span_lasts}
use Rattle.calspan_run.proofs.WriterLemmas.{text_all, short_more}

module _ (rows : TableRows) (first : List (List ℕ)) (text : List ℕ) (s : Standing) (h : AnswersBehind rows first text s) where
  ends_more : (others : List (List ℕ)) → EndBefore (first ++ others) rows h.number h.line (h.more ++ others)
  ends_more others = record {
    before = h.ends.before;
    are_rows = h.ends.are_rows;
    number = h.ends.number;
    all = ap (λ t. t ++ others) h.ends.all ∙ append_assoc h.ends.before (h.line ∷ h.more) others;
  }

  -- others behind them
  behind_append : (others : List (List ℕ)) (added : List ℕ) (next : Standing) → AreAnswers (contents_of rows) others (length first + 1) s added next → AnswersBehind rows (first ++ others) (text ++ added) next
  behind_append others added next answers =
      let size : length first ≡ length h.ends.before + length (h.line ∷ h.more) = ap length h.ends.all ∙ length-append h.ends.before (h.line ∷ h.more) in
      let count : length first + 1 ≡ h.number + length (h.line ∷ h.more) = omega (arith, size, h.ends.number) in
      record {
        number = h.number;
        line = h.line;
        more = h.more ++ others;
        request = h.request;
        ends = ends_more others;
        says = h.says;
        accepted = h.accepted;
        answers = answers_append (contents_of rows) (h.line ∷ h.more) others h.number (Answering false) s next text added h.answers
            (subst (λ (k : ℕ). AreAnswers (contents_of rows) others k s added next) count answers);
      }

  -- one line more
  pub behind_push : (line : List ℕ) (number : ℕ) (added : List ℕ) (next : Standing) → number ≡ length first + 1 → IsAnswerTo (line_of line) (contents_of rows) number s added next → AnswersBehind rows (first ++ line ∷ []) (text ++ added) next
  behind_push line number added next is answer =
      behind_append (line ∷ []) added next
      (added, [], next, record { said = line_of line; says = line_says line; answer = subst (λ (k : ℕ). IsAnswerTo (line_of line) (contents_of rows) k s added next) is answer }, sym (append-nil added), (refl, refl))

  -- to any lines behind there are answers
  pub behind_more : (others : List (List ℕ)) → (added : List ℕ) × (next : Standing) × AnswersBehind rows (first ++ others) (text ++ added) next
  behind_more others =
      let (added, next, answers) = lines_exist others rows h.accepted (length first + 1) s in
      (added, next, behind_append others added next answers)

  -- behind an end nothing is answered
  pub behind_ended : (others : List (List ℕ)) → s ≡ Ended → AnswersBehind rows (first ++ others) text Ended
  behind_ended others e = record {
    number = h.number;
    line = h.line;
    more = h.more ++ others;
    request = h.request;
    ends = ends_more others;
    says = h.says;
    accepted = h.accepted;
    answers = ended_append (h.line ∷ h.more) others (contents_of rows) h.number (Answering false) text (subst (λ (x : Standing). AreAnswers (contents_of rows) (h.line ∷ h.more) h.number (Answering false) text x) e h.answers);
  }

-- they are the answers to an input that has these lines
pub behind_says : (bytes : List ℕ) (whole : Bool) (rows : TableRows) (first : List (List ℕ)) (text : List ℕ) (s : Standing) (status : Status) → lines_in bytes whole ≡ first → status ≡ status_at s → AnswersBehind rows first text s → IsAnswers bytes whole text status
behind_says bytes whole rows first text s status all e h = record {
  rows = rows;
  end = AtRequest h.number h.request (h.line ∷ h.more);
  ends = (h.line, h.more, subst (λ (y : List (List ℕ)). EndBefore y rows h.number h.line h.more) (sym all) h.ends, h.says, refl);
  says = inl (h.accepted, record { end = s; answers = h.answers; ends = e });
}

-- at the first request line
pub behind_first : (rows : TableRows) (first : List (List ℕ)) (line : List ℕ) (request : RequestLine) (number : ℕ) (text : List ℕ) (next : Standing) → AreRows first rows → AreAccepted rows → IsLine line (Requests request) → number ≡ length first + 1
    → IsAnswerTo (line_of line) (contents_of rows) number (Answering false) text next → AnswersBehind rows (first ++ line ∷ []) text next
behind_first rows first line request number text next are accepted says is answer = record {
  number = number;
  line = line;
  more = [];
  request = request;
  ends = record { before = first; are_rows = are; number = is; all = refl };
  says = says;
  accepted = accepted;
  answers = (text, [], next, record { said = line_of line; says = line_says line; answer = answer }, sym (append-nil text), (refl, refl));
}

-- how a run ends where a line left it
pub standing_status : (a : Answered) → answered_status a ≡ status_at (standing_of a)
standing_status (GoesOn p) = refl
standing_status Stopped = refl

-- a fault that was counted since then was counted since before
pub ends_from : (result s q : Status) (before now : Option (List ℕ)) (w m more : ℕ) (text : List ℕ) → s ≡ q → w ≤ m → EndsWith result s before now m more text → EndsWith result q before now w more text
ends_from result s q before now w m more text e later (inl (is, wrote)) = inl (is ∙ e, wrote)
ends_from result s q before now w m more text e later (inr (is, wrote, rose)) = inr (is, wrote, omega (arith, later, rose))

pub status_is_end : (s : Standing) → IsEnd (status_at s)
status_is_end (Answering true) = inr (inl refl)
status_is_end (Answering false) = inl refl
status_is_end Ended = inr (inr refl)

goes_on : (refused : Bool) → status_at (Answering refused) ≡ TableRefused → ⊥
goes_on true e = cc
goes_on false e = cc

-- a write failed behind these lines
pub short_behind : (old : Outside) (l t2 : Option (List ℕ)) (r w w2 : ℕ) (bytes : List ℕ) (rows : TableRows) (first others : List (List ℕ)) (text : List ℕ) (s : Standing) → Consumes old.left l bytes → lines_in bytes false ≡ first ++ others
    → old.write_faults ≤ w → Rose w w2 → WrotePrefix old.taken t2 text → AnswersBehind rows first text s → StoppedWriting span_rules old (outside l t2 r w2)
short_behind old l t2 r w w2 bytes rows first others text s took all later rose short behind =
    let (added, next, answers) = behind_more rows first text s behind others in
    let (prefix, wrote, begins) = short_more old.taken t2 text added short in
    record {
      bytes = bytes;
      prefix = prefix;
      text = text ++ added;
      whole = false;
      status = status_at next;
      rose = omega (arith, later, rose);
      exchanged = record { took = took; wrote = wrote };
      begins = begins;
      says = behind_says bytes false rows (first ++ others) (text ++ added) next (status_at next) all refl answers;
      at_end = λ e. cc;
    }

module _ (old : Outside) (l t : Option (List ℕ)) (r w : ℕ) (reader : Reader) (line : LineBuffer) (pending : List ℕ) (rows : TableRows) (refused : Bool) (h : IsUnderway old (outside l t r w) reader line pending rows (Answering refused)) where
  -- the next line was answered
  pub line_on : (t2 : Option (List ℕ)) (w2 : ℕ) (q : Reader) (buffer cleared : LineBuffer) (new added : List ℕ) (number : ℕ) (next : Standing) → (f : GivesLine q buffer h.bytes h.lines) → lines_given q ≡ lines_given reader + 1 → number ≡ lines_given q
      → IsAnswerTo (line_of f.line) (contents_of rows) number (Answering refused) added next → TextSoFar old.taken t2 new (h.text ++ added) → Holds cleared [] → w ≤ w2 → IsUnderway old (outside l t2 r w2) q cleared new rows next
  line_on t2 w2 q buffer cleared new added number next f counts is answer so_far empty later = record {
    bytes = h.bytes;
    lines = h.lines ++ f.line ∷ [];
    rest = [];
    text = h.text ++ added;
    took = h.took;
    at = f.at;
    holds = empty;
    counted = counts ∙ (ap (λ k. k + 1) h.counted ∙ sym (length_push h.lines f.line));
    answers = behind_push rows h.lines h.text (Answering refused) h.answers f.line number added next (is ∙ (counts ∙ ap (λ k. k + 1) h.counted)) answer;
    so_far = so_far;
    read_later = h.read_later;
    write_later = omega (arith, h.write_later, later);
  }

  -- the next chunk was read
  pub chunk_on : (l2 t2 : Option (List ℕ)) (r2 w2 : ℕ) (mid q : Reader) (buffer : LineBuffer) (none x : List ℕ) → (f : GivesAll mid buffer h.bytes h.lines) → lines_given mid ≡ lines_given reader → lines_given q ≡ lines_given mid → TextSoFar old.taken t2 none h.text → Consumes l l2 x
      → IsAt q (h.bytes ++ x) h.lines (open_line h.bytes) → r ≤ r2 → w ≤ w2 → IsUnderway old (outside l2 t2 r2 w2) q buffer none rows (Answering refused)
  chunk_on l2 t2 r2 w2 mid q buffer none x f same still so_far took at read write = record {
    bytes = h.bytes ++ x;
    lines = h.lines;
    rest = open_line h.bytes;
    text = h.text;
    took = Consumes-trans old.left l l2 h.bytes x h.took took;
    at = at;
    holds = f.holds;
    counted = still ∙ (same ∙ h.counted);
    answers = h.answers;
    so_far = so_far;
    read_later = omega (arith, h.read_later, read);
    write_later = omega (arith, h.write_later, write);
  }

  -- a write failed
  pub write_stopped : (t2 : Option (List ℕ)) (w2 : ℕ) → Rose w w2 → WrotePrefix old.taken t2 h.text → StoppedWriting span_rules old (outside l t2 r w2)
  write_stopped t2 w2 rose short =
      let (others, all) = given_in_all reader h.bytes h.lines h.rest h.at in
      short_behind old l t2 r w w2 h.bytes rows h.lines others h.text (Answering refused) h.took all h.write_later rose short h.answers

  -- a read failed
  pub read_stopped : (l2 t2 : Option (List ℕ)) (r2 w2 : ℕ) (mid : Reader) (buffer : LineBuffer) (none : List ℕ) → GivesAll mid buffer h.bytes h.lines → TextSoFar old.taken t2 none h.text → none ≡ [] → Keeps l l2 → Rose r r2 → StoppedReading span_rules old (outside l2 t2 r2 w2)
  read_stopped l2 t2 r2 w2 mid buffer none f so_far e keeps rose = record {
    bytes = h.bytes;
    text = h.text;
    status = status_at (Answering refused);
    rose = omega (arith, h.read_later, rose);
    exchanged = record { took = Consumes-kept old.left l l2 h.bytes h.took keeps; wrote = text_all old.taken t2 none h.text so_far e };
    says = behind_says h.bytes false rows h.lines h.text (Answering refused) (status_at (Answering refused)) f.all refl h.answers;
    goes_on = goes_on refused;
  }

  -- more came than is read
  pub too_much : (t2 : Option (List ℕ)) (w2 : ℕ) (none : List ℕ) → GivesTooLong h.bytes h.lines → TextSoFar old.taken t2 none h.text → none ≡ [] → TookTooMuch span_rules old (outside l t2 r w2)
  too_much t2 w2 none f so_far e = record {
    bytes = h.bytes;
    text = h.text;
    status = status_at (Answering refused);
    more = f.size;
    exchanged = record { took = h.took; wrote = text_all old.taken t2 none h.text so_far e };
    says = behind_says (take limit h.bytes) false rows h.lines h.text (Answering refused) (status_at (Answering refused)) f.all refl h.answers;
    goes_on = goes_on refused;
  }

  -- a row line ended the run
  pub late_ends : (q : Reader) (buffer : LineBuffer) (number : ℕ) (added : List ℕ) → (f : GivesLine q buffer h.bytes h.lines) → lines_given q ≡ lines_given reader + 1 → number ≡ lines_given q
      → IsAnswerTo (line_of f.line) (contents_of rows) number (Answering refused) added Ended → MayEnd span_rules old.left l (h.text ++ added) TableRefused
  late_ends q buffer number added f counts is answer =
      let (others, all) = given_within q h.bytes (h.lines ++ f.line ∷ []) [] f.at in
      let behind = behind_push rows h.lines h.text (Answering refused) h.answers f.line number added Ended (is ∙ (counts ∙ ap (λ k. k + 1) h.counted)) answer in
      record {
        bytes = h.bytes;
        whole = false;
        took = h.took;
        says = behind_says (take limit h.bytes) false rows ((h.lines ++ f.line ∷ []) ++ others) (h.text ++ added) Ended TableRefused all refl (behind_ended rows (h.lines ++ f.line ∷ []) (h.text ++ added) Ended behind others refl);
        at_end = λ e. cc;
        at_line = λ e. refl;
      }

  -- the input came to its end
  pub input_ends : (l2 : Option (List ℕ)) (mid : Reader) (buffer : LineBuffer) (text : List ℕ) (s : Standing) → GivesAll mid buffer h.bytes h.lines → Consumes l l2 [] → IsAtEnd l2 → AnswersBehind rows (with_open_line h.lines (open_line h.bytes)) text s → MayEnd span_rules old.left l2 text (status_at s)
  input_ends l2 mid buffer text s f took end behind = record {
    bytes = h.bytes;
    whole = true;
    took = consumes_end old.left l l2 h.bytes h.took took;
    says = behind_says (take limit h.bytes) true rows (with_open_line h.lines (open_line h.bytes)) text s (status_at s) (ap (λ b. lines_in b true) (take_all limit h.bytes f.size) ∙ lines_in-whole h.bytes h.lines f.all) refl behind;
    at_end = λ e. (end, f.size);
    at_line = λ e. cc;
  }

-- the last text of a run of `span` was written
pub span_ends : (old : Outside) (l t2 : Option (List ℕ)) (r w w2 : ℕ) (text : List ℕ) (status result : Status) → IsEnd status → old.write_faults ≤ w → MayEnd span_rules old.left l text status → EndsWith result status old.taken t2 w w2 text → Serves span_rules result old (outside l t2 r w2)
span_ends old l t2 r w w2 text status result end later may ends =
    ends_serve span_rules span_lasts old.left l old.taken t2 old.read_faults r old.write_faults w2 text status may result end
    (ends_from result status status old.taken t2 old.write_faults w w2 text refl later ends)

-- the first request line meets tables that aren't accepted
pub request_refused : (left l : Option (List ℕ)) (n : ℕ) (request : RequestLine) (rows : TableRows) (table : Table) (fault : TableFault) → MetOther left l n request rows → IsFirstRefused rows table fault → MayEnd span_rules left l (table_refusal table fault) TableRefused
request_refused left l n request rows table fault h first = record {
  bytes = h.bytes;
  whole = h.whole;
  took = h.took;
  says = record { rows = rows; end = AtRequest n request h.others; ends = h.ends; says = inr ((table, fault, first, refl), refl) };
  at_end = h.at_end;
  at_line = λ e. refl;
}

-- a row line is refused
pub row_refused : (left l : Option (List ℕ)) (n : ℕ) (why : RowFault) → MetFaulty left l n why → MayEnd span_rules left l (row_refusal n why) TableRefused
row_refused left l n why h = record {
  bytes = h.bytes;
  whole = h.whole;
  took = h.took;
  says = record { rows = h.rows; end = AtFaultyRow n why; ends = h.ends; says = (refl, refl) };
  at_end = h.at_end;
  at_line = λ e. refl;
}

-- row lines alone came
pub rows_end : (left l : Option (List ℕ)) (rows : TableRows) (text : List ℕ) (status : Status) → MetEnd left l rows → OverTables span_behind.AtEnd rows text status → MayEnd span_rules left l text status
rows_end left l rows text status h over = record {
  bytes = h.bytes;
  whole = true;
  took = h.took;
  says = subst (λ (b : List ℕ). IsAnswers b true text status) (sym (take_all limit h.bytes h.within)) (record { rows = rows; end = WithLines; ends = h.are_rows; says = over });
  at_end = λ e. (h.at_end, h.within);
  at_line = λ e. cc;
}

-- a write failed before anything was written
pub nothing_short : (left l t t2 : Option (List ℕ)) (faults r w w2 : ℕ) (bytes : List ℕ) → Consumes left l bytes → Rose w w2 → WrotePrefix t t2 [] → StoppedWriting span_rules (outside left t faults w) (outside l t2 r w2)
nothing_short left l t t2 faults r w w2 bytes took rose (prefix, wrote, begins) =
    let (text, status, says) = span_exists bytes false in
    record {
      bytes = bytes;
      prefix = prefix;
      text = text;
      whole = false;
      status = status;
      rose = rose;
      exchanged = record { took = took; wrote = wrote };
      begins = prefix_then prefix [] text begins (text, refl);
      says = says;
      at_end = λ e. cc;
    }

module _ (left l : Option (List ℕ)) (reader : Reader) (line : LineBuffer) (rows : TableRows) (accepted : AreAccepted rows) where
  -- the first request line was answered
  pub underway : (t t2 : Option (List ℕ)) (f r w w2 : ℕ) (cleared : LineBuffer) (pending added : List ℕ) (number : ℕ) (refused : Bool) → f ≤ r → w ≤ w2 → number ≡ lines_given reader → (h : MetRequest left l reader line rows) → Holds cleared []
      → IsAnswerTo (line_of h.whole) (contents_of rows) number (Answering false) added (Answering refused) → TextSoFar t t2 pending added → IsUnderway (outside left t f w) (outside l t2 r w2) reader cleared pending rows (Answering refused)
  underway t t2 f r w w2 cleared pending added number refused reads writes is h empty answer so_far = record {
    bytes = h.bytes;
    lines = h.lines ++ h.whole ∷ [];
    rest = [];
    text = added;
    took = h.took;
    at = h.at;
    holds = empty;
    counted = h.counted ∙ sym (length_push h.lines h.whole);
    answers = behind_first rows h.lines h.whole h.request number added (Answering refused) h.are_rows accepted h.says (is ∙ h.counted) answer;
    so_far = so_far;
    read_later = reads;
    write_later = writes;
  }

  -- it ended the run
  pub first_ends : (added : List ℕ) (number : ℕ) → number ≡ lines_given reader → (h : MetRequest left l reader line rows) → IsAnswerTo (line_of h.whole) (contents_of rows) number (Answering false) added Ended → MayEnd span_rules left l added TableRefused
  first_ends added number is h answer =
      let (others, all) = given_within reader h.bytes (h.lines ++ h.whole ∷ []) [] h.at in
      let behind = behind_first rows h.lines h.whole h.request number added Ended h.are_rows accepted h.says (is ∙ h.counted) answer in
      record {
        bytes = h.bytes;
        whole = false;
        took = h.took;
        says = behind_says (take limit h.bytes) false rows ((h.lines ++ h.whole ∷ []) ++ others) added Ended TableRefused all refl (behind_ended rows (h.lines ++ h.whole ∷ []) added Ended behind others refl);
        at_end = λ e. cc;
        at_line = λ e. refl;
      }

  -- the only one was answered
  pub last_ends : (added : List ℕ) (number : ℕ) (s : Standing) → number ≡ lines_given reader + 1 → (h : MetLast left l reader line rows) → IsAnswerTo (line_of (open_line h.bytes)) (contents_of rows) number (Answering false) added s → MayEnd span_rules left l added (status_at s)
  last_ends added number s is h answer =
      let whole = ap (λ b. lines_in b true) (take_all limit h.bytes h.within) ∙ lines_in-whole h.bytes h.lines h.all in
      let all = whole ∙ open_line_is h.lines (open_line h.bytes) (Requests h.request) (not_request h.request) h.says in
      let behind = behind_first rows h.lines (open_line h.bytes) h.request number added s h.are_rows accepted h.says (is ∙ ap (λ k. k + 1) h.counted) answer in
      record {
        bytes = h.bytes;
        whole = true;
        took = h.took;
        says = behind_says (take limit h.bytes) true rows (h.lines ++ open_line h.bytes ∷ []) added s (status_at s) all refl behind;
        at_end = λ e. (h.at_end, h.within);
        at_line = λ e. cc;
      }

-- nothing was written where the source failed or gave too much, or memory was wanted
span_stops : (left l t : Option (List ℕ)) (faults more w : ℕ) (why : Stop) → Stops why left l faults more → Serves span_rules (stop_status why) (outside left t faults w) (outside l t more w)
span_stops left l t faults more w stop.ReadFault (bytes, rows, rose, took, are) = record {
  bytes = bytes;
  text = [];
  status = Done;
  rose = rose;
  exchanged = record { took = took; wrote = appends_none t };
  says = record { rows = rows; end = WithLines; ends = are; says = (refl, refl) };
  goes_on = goes_on false;
}
span_stops left l t faults more w stop.NoMemory (bytes, whole, took, may, at_end) = record {
  bytes = bytes;
  whole = whole;
  exchanged = record { took = took; wrote = appends_none t };
  may = may;
  within = λ keeps. absurd keeps;
  at_end = at_end;
}
span_stops left l t faults more w stop.TooLong (bytes, rows, size, took, are) = record {
  bytes = bytes;
  text = [];
  status = Done;
  more = size;
  exchanged = record { took = took; wrote = appends_none t };
  says = record { rows = rows; end = WithLines; ends = are; says = (refl, refl) };
  goes_on = goes_on false;
}

pub span_stopped : (left l t : Option (List ℕ)) (faults more w : ℕ) (status : Status) (why : Stop) → status ≡ stop_status why → Stops why left l faults more → Serves span_rules status (outside left t faults w) (outside l t more w)
span_stopped left l t faults more w status why e h = subst (λ (s : Status). Serves span_rules s (outside left t faults w) (outside l t more w)) (sym e) (span_stops left l t faults more w why h)
