-- What the lists write over tables.
use Rattle.std.specs.Prelude.{ℕ, Bool, List, Result}
use Rattle.cal_tables.specs.Kinds.{TableContents}
use Rattle.calspan_run.specs.Anniversaries.{anniversary_answer}
use Rattle.command_line.specs.Asked.{AnniversaryAsked, RecurAsked}
use Rattle.calspan_run.specs.DayLines.{IsListText}
use Rattle.calspan_run.specs.Recurrences.{IsRecurAnswer}

-- the text of `anniversary`, and whether it is a refusal
abbrev pub ListsAnniversaries : AnniversaryAsked → TableContents → List ℕ → Bool → Type 0
ListsAnniversaries a tables text refused = IsListText (anniversary_answer a tables) text refused

-- the text of `recur`, and whether it is a refusal
abbrev pub ListsOccurrences : RecurAsked → TableContents → List ℕ → Bool → Type 0
ListsOccurrences a tables text refused =
    (answer : Result (List ℕ) (List ℕ)) × IsRecurAnswer a tables answer × IsListText answer text refused
