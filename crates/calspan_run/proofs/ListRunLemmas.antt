-- A run that gathered rows, and then wrote one text.
use Rattle.std.proofs.Common.{◌≡◌, ℕ, Bool, true, false, cond, codes, List, [], Option, inl, inr, refl, ◌∙◌, sym, ap, subst}
use Rattle.std.proofs.lemmas.List.{take_all}
use Rattle.cal_tables.specs.Kinds.{TableContents}
use Rattle.byte_io.specs.Buffer.{Holds}
use Rattle.byte_io.specs.declared.buffer.LineBuffer.{LineBuffer}
use Rattle.request_lines.specs.Lines.{Requests, RequestLine, Long, Asks, Malformed, IsLine}
use Rattle.table_rows.specs.Reading.{is_long}
use Rattle.table_rows.proofs.ReadingLemmas.{long_is}
use Rattle.calspan_run.specs.Refusals.{refusal, status_of}
use Rattle.calspan_run.specs.BehindRows.{OverTables, SaysBehindRows}
use Rattle.calspan_run.specs.Endings.{EndsOver, EndsWith, MayEnd}
use Rattle.calspan_run.specs.ListAnswers.{end_behind, line_refusal}
use Rattle.table_rows.specs.RowLines.{WithLines, AtFaultyRow, AtRequest}
use Rattle.table_rows.specs.Gathering.{MetEnd, MetFaulty, MetOther, Stops}
use Rattle.calspan_run.specs.Rules.{end_rules}
use Rattle.calspan_run.specs.Run.{outside, limit}
use Rattle.calspan_run.specs.Serving.{Serves}
use Rattle.table_rows.specs.TableRows.{TableRows}
use Rattle.calspan_run.specs.TableTexts.{row_refusal}
use Rattle.calspan_run.specs.Status.{stop_status}
use Rattle.table_rows.specs.declared.gathering.Stop.{Stop}
use Rattle.table_rows.specs.declared.gathering.Stop.TheVariants as stop
use Rattle.calspan_run.specs.declared.status.Status.{Status}
use Rattle.calspan_run.specs.declared.status.Status.TheVariants.{Done, Refused, TableRefused}
use Rattle.table_rows.specs.declared.table.RowFault.{RowFault}
use Rattle.calspan_run.proofs.EndLemmas.{ends_over, ends_serve}
use Rattle.calspan_run.proofs.KnownLemmas.{appends_none}
use Rattle.calspan_run.proofs.ListLemmas.{end_lasts, list_lasts-done}

module _ (Ends : TableContents → List ℕ → Status → Type 0) (left l : Option (List ℕ)) where
  -- nothing was written where the source failed or gave too much, or memory was wanted
  stops_serve : (why : Stop) (t : Option (List ℕ)) (faults more w : ℕ) → Stops why left l faults more → Serves (end_rules Ends) (stop_status why) (outside left t faults w) (outside l t more w)
  stops_serve stop.ReadFault t faults more w (bytes, rows, rose, took, are) = record {
    bytes = bytes;
    text = [];
    status = Done;
    rose = rose;
    exchanged = record { took = took; wrote = appends_none t };
    says = record { rows = rows; end = WithLines; ends = are; says = (refl, refl) };
    goes_on = list_lasts-done;
  }
  stops_serve stop.NoMemory t faults more w (bytes, whole, took, may, at_end) = record {
    bytes = bytes;
    whole = whole;
    exchanged = record { took = took; wrote = appends_none t };
    may = may;
    within = λ keeps. absurd keeps;
    at_end = at_end;
  }
  stops_serve stop.TooLong t faults more w (bytes, rows, size, took, are) = record {
    bytes = bytes;
    text = [];
    status = Done;
    more = size;
    exchanged = record { took = took; wrote = appends_none t };
    says = record { rows = rows; end = WithLines; ends = are; says = (refl, refl) };
    goes_on = list_lasts-done;
  }

  pub stopped_serves : (status : Status) (why : Stop) (t : Option (List ℕ)) (faults more w : ℕ) → status ≡ stop_status why → Stops why left l faults more → Serves (end_rules Ends) status (outside left t faults w) (outside l t more w)
  stopped_serves status why t faults more w e h = subst (λ (s : Status). Serves (end_rules Ends) s (outside left t faults w) (outside l t more w)) (sym e) (stops_serve why t faults more w h)

  pub faulty_ends : (n : ℕ) (why : RowFault) → MetFaulty left l n why → MayEnd (end_rules Ends) left l (row_refusal n why) TableRefused
  faulty_ends n why h = record {
    bytes = h.bytes;
    whole = h.whole;
    took = h.took;
    says = record { rows = h.rows; end = AtFaultyRow n why; ends = h.ends; says = (refl, refl) };
    at_end = h.at_end;
    at_line = λ e. inr refl;
  }

  pub other_ends : (n : ℕ) (request : RequestLine) (rows : TableRows) → MetOther left l n request rows → MayEnd (end_rules Ends) left l (line_refusal n request) Refused
  other_ends n request rows h = record {
    bytes = h.bytes;
    whole = h.whole;
    took = h.took;
    says = record { rows = rows; end = AtRequest n request h.others; ends = h.ends; says = (refl, refl) };
    at_end = h.at_end;
    at_line = λ e. inl refl;
  }

  pub end_ends : (rows : TableRows) (text : List ℕ) (status : Status) → MetEnd left l rows → OverTables (end_behind Ends).AtEnd rows text status → MayEnd (end_rules Ends) left l text status
  end_ends rows text status h over = record {
    bytes = h.bytes;
    whole = true;
    took = h.took;
    says = subst (λ (b : List ℕ). SaysBehindRows (end_behind Ends) b true text status) (sym (take_all limit h.bytes h.within)) (record { rows = rows; end = WithLines; ends = h.are_rows; says = over });
    at_end = λ e. (h.at_end, h.within);
    at_line = λ e. cc;
  }

-- a line that is no row line is long where its buffer says so
long_refusal : (request : RequestLine) (n : ℕ) → line_refusal n request ≡ refusal n (cond (is_long request) (codes "long") (codes "syntax"))
long_refusal Long n = refl
long_refusal (Asks r) n = refl
long_refusal Malformed n = refl

pub refusal_is : (whole : List ℕ) (line : LineBuffer) (request : RequestLine) (n : ℕ) → IsLine whole (Requests request) → Holds line whole → line_refusal n request ≡ refusal n (cond line.over (codes "long") (codes "syntax"))
refusal_is whole line request n says holds = long_refusal request n ∙ ap (λ o. refusal n (cond o (codes "long") (codes "syntax"))) (long_is whole line request says holds)

module _ (Ends : TableContents → List ℕ → Status → Type 0) (left l t t2 : Option (List ℕ)) (faults reads w w2 : ℕ) (result : Status) where
  -- another line was met, which the buffer holds, and is refused
  pub other_serves : (n : ℕ) (whole : List ℕ) (line : LineBuffer) (request : RequestLine) (rows : TableRows) → MetOther left l n request rows → IsLine whole (Requests request) → Holds line whole
      → EndsWith result Refused t t2 w w2 (refusal n (cond line.over (codes "long") (codes "syntax"))) → Serves (end_rules Ends) result (outside left t faults w) (outside l t2 reads w2)
  other_serves n whole line request rows met says holds ends =
      ends_serve (end_rules Ends) (end_lasts Ends) left l t t2 faults reads w w2 (line_refusal n request) Refused (other_ends Ends left l n request rows met) result (inr (inl refl))
      (subst (λ (x : List ℕ). EndsWith result Refused t t2 w w2 x) (sym (refusal_is whole line request n says holds)) ends)

  -- a row line is refused
  pub faulty_serves : (n : ℕ) (why : RowFault) → MetFaulty left l n why → EndsWith result TableRefused t t2 w w2 (row_refusal n why) → Serves (end_rules Ends) result (outside left t faults w) (outside l t2 reads w2)
  faulty_serves n why met ends =
      ends_serve (end_rules Ends) (end_lasts Ends) left l t t2 faults reads w w2 (row_refusal n why) TableRefused (faulty_ends Ends left l n why met) result (inr (inr refl)) ends

  -- the list is written, or its tables are refused
  pub end_serves : (rows : TableRows) (text : List ℕ) (status : Status) → MetEnd left l rows → OverTables (end_behind Ends).AtEnd rows text status → EndsOver result status t t2 w w2 text → Serves (end_rules Ends) result (outside left t faults w) (outside l t2 reads w2)
  end_serves rows text status met over ends =
      ends_over (end_rules Ends) (end_lasts Ends) left l t t2 faults reads w w2 text status (end_ends Ends left l rows text status met over) result ends

-- the list over the tables that rows make
pub ends_at : (Ends : TableContents → List ℕ → Status → Type 0) (tables contents : TableContents) (text : List ℕ) (status : Status) → tables ≡ contents → Ends tables text status → Ends contents text status
ends_at Ends tables contents text status same ends = subst (λ (x : TableContents). Ends x text status) same ends

-- the same with a status that is known
pub ends_as : (Ends : TableContents → List ℕ → Status → Type 0) (tables contents : TableContents) (text : List ℕ) (refused : Bool) (status : Status) → tables ≡ contents → status_of refused ≡ status → Ends tables text (status_of refused) → Ends contents text status
ends_as Ends tables contents text refused status same e ends =
    ends_at Ends tables contents text status same (subst (λ (s : Status). Ends tables text s) e ends)

-- the line that refuses a table was written
pub refused_over : (result : Status) (before now : Option (List ℕ)) (faults more : ℕ) (text : List ℕ) → EndsWith result TableRefused before now faults more text → EndsOver result TableRefused before now faults more text
refused_over result before now faults more text (inl (e, wrote)) = inl (inr (inr refl), e, wrote)
refused_over result before now faults more text (inr h) = inr h
