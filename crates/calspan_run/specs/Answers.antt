-- What `span` writes for an input, and how the run ends.
use Rattle.std.specs.Prelude.{◌≡◌, ℕ, ◌+◌, Bool, true, false, List, [], ◌∷◌, ◌++◌, if◌then◌else◌, codes}
use Rattle.cal_tables.specs.Kinds.{TableContents, kind_system}
use Rattle.request_lines.specs.Lines.{Line, Nothing, GivesRow, Requests, RequestLine, Long, Asks, Malformed, IsLine}
use Rattle.calspan_run.specs.BehindRows.{Behind, OverTables, SaysBehindRows}
use Rattle.calspan_run.specs.Refusals.{refusal, status_of}
use Rattle.calspan_run.specs.Replies.{IsReply}
use Rattle.calspan_run.specs.TableTexts.{row_refusal}
use Rattle.calspan_run.specs.declared.status.Status.{Status}
use Rattle.calspan_run.specs.declared.status.Status.TheVariants.{Done, TableRefused}
use Rattle.table_rows.specs.declared.table.RowFault.TheVariants as row_fault

-- the text that answers the request line of number n, and whether it is a refusal
abbrev pub IsRequestAnswer : TableContents → RequestLine → ℕ → List ℕ → Bool → Type 0
IsRequestAnswer tables Long n text refused = (text ≡ refusal n (codes "long")) × (refused ≡ true)
IsRequestAnswer tables (Asks r) n text refused =
    IsReply (kind_system tables r.calendar) (kind_system tables r.shown) r text refused
IsRequestAnswer tables Malformed n text refused = (text ≡ refusal n (codes "syntax")) × (refused ≡ true)

-- where a run stands behind some request lines: whether one was answered err, or at the end that a row line made
pub data Standing : Type 0 where
  Answering : Bool → Standing
  Ended : Standing

-- a request line is answered, where some were answered before it
pub record AnswersRequest (tables : TableContents) (before : Bool) (line : RequestLine) (n : ℕ) (text : List ℕ)
    (next : Standing) : Type 0 where
  pub refused : Bool
  pub answer : IsRequestAnswer tables line n text refused
  pub stands : next ≡ Answering (if refused then true else before)

-- the text that answers the line of number n, and where the run stands behind it
abbrev pub IsAnswerTo : Line → TableContents → ℕ → Standing → List ℕ → Standing → Type 0
IsAnswerTo Nothing tables n s text next = (text ≡ []) × (next ≡ s)
IsAnswerTo (GivesRow row) tables n (Answering before) text next = (text ≡ row_refusal n row_fault.Late) × (next ≡ Ended)
IsAnswerTo (GivesRow row) tables n Ended text next = (text ≡ []) × (next ≡ Ended)
IsAnswerTo (Requests line) tables n (Answering before) text next = AnswersRequest tables before line n text next
IsAnswerTo (Requests line) tables n Ended text next = (text ≡ []) × (next ≡ Ended)

-- the text that answers what a line says
pub record AnswersLine (tables : TableContents) (line : List ℕ) (n : ℕ) (s : Standing) (text : List ℕ)
    (next : Standing) : Type 0 where
  pub said : Line
  pub says : IsLine line said
  pub answer : IsAnswerTo said tables n s text next

-- the text that answers some lines, the first of which has number n, and where the run stands behind them
abbrev pub AreAnswers : TableContents → List (List ℕ) → ℕ → Standing → List ℕ → Standing → Type 0
AreAnswers tables [] n s text end = (text ≡ []) × (end ≡ s)
AreAnswers tables (line ∷ more) n s text end =
    (added rest : List ℕ) × (next : Standing) × AnswersLine tables line n s added next × (text ≡ added ++ rest)
    × AreAnswers tables more (n + 1) next rest end

-- how a run ends there
abbrev pub status_at : Standing → Status
status_at (Answering refused) = status_of refused
status_at Ended = TableRefused

-- the answers to the lines from the first request line on, over the tables
pub record AnswersAll (tables : TableContents) (lines : List (List ℕ)) (n : ℕ) (text : List ℕ)
    (status : Status) : Type 0 where
  pub end : Standing
  pub answers : AreAnswers tables lines n (Answering false) text end
  pub ends : status ≡ status_at end

-- nothing is written where there is no request line; at the first one, the tables are tested before it is answered
abbrev pub span_behind : Behind
span_behind = record {
  AtEnd = λ tables text status. (text ≡ []) × (status ≡ Done);
  AtLine = λ rows n request lines text status.
      OverTables (λ tables t s. AnswersAll tables lines n t s) rows text status;
}

-- the answers to an input, or to what has come of it, and how a run ends there
abbrev pub IsAnswers : List ℕ → Bool → List ℕ → Status → Type 0
IsAnswers bytes whole text status = SaysBehindRows span_behind bytes whole text status
