-- What `recur` writes.
use Rattle.std.specs.Prelude.{◌≡◌, ℕ, ◌==◌, List, MatchBool, None, Result, Ok, Err, codes}
use Rattle.cal_errors.specs.declared.errors.DateFromFieldsError.{DateFromFieldsError}
use Rattle.cal_types.specs.declared.options.DateFromFieldsOptions.{DateFromFieldsOptions}
use Rattle.cal_types.specs.CalendarList.{Date}
use Rattle.cal_types.specs.CalendarSystem.{CalendarSystem, resolve_fields}
use Rattle.cal_recur.specs.Listing.{occurrences}
use Rattle.cal_recur.specs.Rule.{IsRule}
use Rattle.cal_recur.specs.declared.rule.Rule.{Rule}
use Rattle.cal_tables.specs.Kinds.{TableContents, kind_system}
use Rattle.reply_texts.specs.DateTexts.{cause_text}
use Rattle.command_line.specs.Asked.{RecurAsked}
use Rattle.calspan_run.specs.DayLines.{is_window, occurrence_line}
use Rattle.calspan_run.specs.TextSoFar.{lines_text}

-- both options left out
abbrev pub no_options : DateFromFieldsOptions
no_options = record { overflow = None; missing_fields_strategy = None }

-- a line for each occurrence of a rule in a window, in their order; or why the fields name no start
abbrev pub occurrence_lines : CalendarSystem → CalendarSystem → RecurAsked → Rule → Result Date DateFromFieldsError
    → Result (List ℕ) (List ℕ)
occurrence_lines c shown a rule (Ok start) =
    Ok (lines_text (occurrence_line c shown) (occurrences c start rule a.header.first a.header.last))
occurrence_lines c shown a rule (Err cause) = Err (cause_text cause)

-- the answer by a rule
abbrev pub answer_by_rule : RecurAsked → TableContents → Rule → Result (List ℕ) (List ℕ)
answer_by_rule a tables rule =
    let c = kind_system tables a.header.calendar in
    occurrence_lines c (kind_system tables a.header.shown) a rule (resolve_fields c a.start no_options)

-- the same, by the rule that is asked for: there is none of every 0 units
abbrev pub IsAnswerByRule : RecurAsked → TableContents → Result (List ℕ) (List ℕ) → Type 0
IsAnswerByRule a tables answer =
    MatchBool (a.header.every == 0) (answer ≡ Err (codes "Every"))
    ((rule : Rule) × IsRule a.header.unit a.header.every a.header.missing rule
    × (answer ≡ answer_by_rule a tables rule))

-- the answer over tables: first the window is tested, then the rule, then the start
abbrev pub IsRecurAnswer : RecurAsked → TableContents → Result (List ℕ) (List ℕ) → Type 0
IsRecurAnswer a tables answer =
    MatchBool (is_window a.header.first a.header.last) (IsAnswerByRule a tables answer)
    (answer ≡ Err (codes "InvalidWindow"))
