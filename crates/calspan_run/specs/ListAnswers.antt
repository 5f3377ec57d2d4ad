-- What a command writes that lists something: no line is a request.
use Rattle.std.specs.Prelude.{◌≡◌, ℕ, Bool, List, codes}
use Rattle.cal_tables.specs.Kinds.{TableContents}
use Rattle.request_lines.specs.Lines.{RequestLine, Long, Asks, Malformed}
use Rattle.calspan_run.specs.Refusals.{refusal, status_of}
use Rattle.calspan_run.specs.BehindRows.{Behind}
use Rattle.calspan_run.specs.declared.status.Status.{Status}
use Rattle.calspan_run.specs.declared.status.Status.TheVariants.{Refused}

-- the line that refuses the line of number n, which is no row line
abbrev pub line_refusal : ℕ → RequestLine → List ℕ
line_refusal n Long = refusal n (codes "long")
line_refusal n (Asks r) = refusal n (codes "syntax")
line_refusal n Malformed = refusal n (codes "syntax")

-- over the tables the list is written, or the line that refuses it
abbrev pub list_end : (TableContents → List ℕ → Bool → Type 0) → TableContents → List ℕ → Status → Type 0
list_end Lists tables text status = (refused : Bool) × Lists tables text refused × (status ≡ status_of refused)

-- any line but a row line is refused, whatever the tables are
abbrev pub end_behind : (TableContents → List ℕ → Status → Type 0) → Behind
end_behind Ends = record {
  AtEnd = Ends;
  AtLine = λ rows n request others text status. (text ≡ line_refusal n request) × (status ≡ Refused);
}

abbrev pub list_behind : (TableContents → List ℕ → Bool → Type 0) → Behind
list_behind Lists = end_behind (list_end Lists)
