-- What the runs of the commands are held to.
use Rattle.std.specs.Prelude.{◌≡◌, ℕ, ◌-◌, ◌<◌, Bool, true, false, List, [], ◌⊎◌, length}
use Rattle.cal_tables.specs.Kinds.{TableContents}
use Rattle.byte_io.specs.Lines.{lines_in}
use Rattle.command_line.specs.Asked.{HolidaysAsked}
use Rattle.calspan_run.specs.BehindRows.{Behind, OverTables, SaysBehindRows}
use Rattle.calspan_run.specs.BookRows.{behind_lines}
use Rattle.calspan_run.specs.Converted.{Answer}
use Rattle.calspan_run.specs.Explained.{any_malformed, explained}
use Rattle.calspan_run.specs.Generator.{IsGenerated}
use Rattle.calspan_run.specs.HolidayLines.{holidays_written}
use Rattle.calspan_run.specs.ListAnswers.{end_behind, list_end}
use Rattle.calspan_run.specs.RecordsExplained.{book_explained}
use Rattle.calspan_run.specs.Refusals.{status_of}
use Rattle.row_faults.specs.declared.stages.Stage.TheVariants.{Rows}
use Rattle.table_rows.specs.RowLines.{RowTakesMemory}
use Rattle.calspan_run.specs.Serving.{Rules}
use Rattle.calspan_run.specs.Answers.{IsAnswers}
use Rattle.calspan_run.specs.declared.status.Status.{Status}
use Rattle.calspan_run.specs.declared.status.Status.TheVariants.{Done, Refused, TableRefused}

-- `span`: a line ends the run where it refuses a row or a table
abbrev pub span_rules : Rules
span_rules = record {
  Says = IsAnswers;
  EndsAtLine = λ status. status ≡ TableRefused;
  MayLack = λ bytes whole. RowTakesMemory (lines_in bytes whole);
  KeepsInput = ⊥;
}

-- `explain`: the lines about the lines of the input; the status says whether there is one
abbrev pub explain_rules : Rules
explain_rules = record {
  Says = λ bytes whole text status.
      (text ≡ explained Rows 1 (lines_in bytes whole))
      × (status ≡ status_of (any_malformed false Rows 1 (lines_in bytes whole)));
  EndsAtLine = λ status. ⊥;
  MayLack = λ bytes whole. ⊥;
  KeepsInput = ⊥;
}

-- a list over the tables, by the status that it ends with: any line that is no row line ends the run too
abbrev pub end_rules : (TableContents → List ℕ → Status → Type 0) → Rules
end_rules Ends = record {
  Says = SaysBehindRows (end_behind Ends);
  EndsAtLine = λ status. (status ≡ Refused) ⊎ (status ≡ TableRefused);
  MayLack = λ bytes whole. RowTakesMemory (lines_in bytes whole);
  KeepsInput = ⊥;
}

-- the same where the text is the list, or the line that refuses it
abbrev pub list_rules : (TableContents → List ℕ → Bool → Type 0) → Rules
list_rules Lists = end_rules (list_end Lists)

-- `gen`: the line of so many requests is written, whatever the input is
abbrev pub generator_rules : ℕ → Rules
generator_rules count = record {
  Says = λ bytes whole text status. IsGenerated count text × (status ≡ Done);
  EndsAtLine = λ status. status ≡ Done;
  MayLack = λ bytes whole. ⊥;
  KeepsInput = ⊥;
}

-- what is written for a book over some tables, and whether the run ends as refused
abbrev pub BookText : Type 0
BookText = TableContents → List ℕ → Answer

abbrev pub book_end : BookText → List ℕ → TableContents → List ℕ → Status → Type 0
book_end written book tables text status =
    (text ≡ (written tables book).0) × (status ≡ status_of (written tables book).1)

-- the book of an input begins with the first line that is neither ignored nor a row line, and is read over the tables
abbrev pub book_behind : BookText → List ℕ → Behind
book_behind written bytes = record {
  AtEnd = book_end written [];
  AtLine = λ rows n request others text status.
      OverTables (book_end written (behind_lines (n - 1) bytes)) rows text status;
}

-- what is written for rows and a book: nothing before the whole input was read, and then the text of the book, or the
-- line that refuses a row or a table
abbrev pub SaysBook : BookText → List ℕ → Bool → List ℕ → Status → Type 0
SaysBook written bytes false text status = (text ≡ []) × (status ≡ Done)
SaysBook written bytes true text status = SaysBehindRows (book_behind written bytes) bytes true text status

-- the input is rows and a book as a whole, and no line ends the run
abbrev pub book_rules : BookText → Rules
book_rules written = record {
  Says = SaysBook written;
  EndsAtLine = λ status. ⊥;
  MayLack = λ bytes whole. 0 < length bytes;
  KeepsInput = Unit {0};
}

-- `holidays`: the list of a book, or the line that refuses it
abbrev pub holiday_rules : HolidaysAsked → Rules
holiday_rules asked = book_rules (holidays_written asked)

-- `explain holidays`: the lines about the invalid records of a book
abbrev pub record_rules : Rules
record_rules = book_rules book_explained
