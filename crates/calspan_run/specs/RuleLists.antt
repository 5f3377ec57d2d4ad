-- What `rrule` writes.
use Rattle.std.specs.Prelude.{◌≡◌, ℕ, ℤ, ◌≤ℤ◌, Bool, true, false, if◌then◌else◌, List, ◌⊎◌, MatchBool, Some, Result, Ok, Err, codes}
use Rattle.cal_days.specs.Day.{is_valid_day}
use Rattle.cal_errors.specs.declared.errors.DateFromFieldsError.{DateFromFieldsError}
use Rattle.cal_errors.specs.declared.errors.DateFromFieldsError.TheVariants.{Overflow}
use Rattle.cal_types.specs.CalendarList.{Date}
use Rattle.cal_types.specs.CalendarSystem.{CalendarSystem, resolve_fields}
use Rattle.cal_types.specs.DayDates.{date_on}
use Rattle.cal_rule.specs.RuleText.{IsRuleText, rule_fault}
use Rattle.cal_rule.specs.declared.rule.RecurrenceRule.{RecurrenceRule}
use Rattle.cal_rule.specs.declared.rule_error.RuleError.{RuleError}
use Rattle.cal_rrule.specs.Occurrences.{AreOccurrences}
use Rattle.recurrence_sets.specs.declared.occurrence.Occurrence.{Occurrence}
use Rattle.cal_tables.specs.Kinds.{TableContents, kind_system}
use Rattle.reply_texts.specs.DateTexts.{cause_text}
use Rattle.std.specs.Fmt.{decimal}
use Rattle.std.specs.Prelude.{◌++◌, ◌∷◌}
use Rattle.calspan_run.specs.DayLines.{IsListText, day_line, is_window}
use Rattle.calspan_run.specs.Recurrences.{no_options}
use Rattle.calspan_run.specs.Refusals.{status_of}
use Rattle.command_line.specs.RruleAsked.{RruleAsked, RruleStart, OnDay, OfFields}
use Rattle.calspan_run.specs.RuleErrors.{rule_error_text}
use Rattle.calspan_run.specs.ListAnswers.{list_end}
use Rattle.calspan_run.specs.TextSoFar.{lines_text}
use Rattle.calspan_run.specs.declared.status.Status.{Status}
use Rattle.calspan_run.specs.declared.status.Status.TheVariants.{WriteFault}

-- the date of the start, or why there is none
abbrev pub rule_start : CalendarSystem → RruleStart → Result Date DateFromFieldsError
rule_start c (OnDay n) = if is_valid_day n then Ok (date_on c.list n) else Err Overflow
rule_start c (OfFields bag) = resolve_fields c bag no_options

-- the line of an occurrence: its index, and the line of its day
abbrev pub rule_line : CalendarSystem → CalendarSystem → Occurrence → List ℕ
rule_line c shown x = decimal x.index ++ 32 ∷ day_line c shown x.day

-- the lines are those of the occurrences from one day to another, in order and each once
abbrev pub AreRuleLines : CalendarSystem → CalendarSystem → RecurrenceRule → Date → ℤ → ℤ → List ℕ → Type 0
AreRuleLines c shown rule start first last text =
    (xs : List Occurrence) × AreOccurrences c.list rule start first last xs × (text ≡ lines_text (rule_line c shown) xs)

-- the answer by a rule: the lines, or why there is no start
abbrev pub IsAnswerFrom : CalendarSystem → CalendarSystem → RecurrenceRule → ℤ → ℤ → Result Date DateFromFieldsError
    → Result (List ℕ) (List ℕ) → Type 0
IsAnswerFrom c shown rule first last (Err cause) answer = answer ≡ Err (cause_text cause)
IsAnswerFrom c shown rule first last (Ok start) answer =
    (text : List ℕ) × AreRuleLines c shown rule start first last text × (answer ≡ Ok text)

-- the text by a rule, and whether it is a refusal
abbrev pub ListsFrom : CalendarSystem → CalendarSystem → RruleAsked → RecurrenceRule → List ℕ → Bool → Type 0
ListsFrom c shown a rule text refused =
    (answer : Result (List ℕ) (List ℕ))
    × IsAnswerFrom c shown rule a.header.first a.header.last (rule_start c a.start) answer
    × IsListText answer text refused

-- the text begins the list: it has the occurrences up to a day of the window, in order and each once
pub record BeginsFrom (c shown : CalendarSystem) (a : RruleAsked) (rule : RecurrenceRule) (text : List ℕ) : Type 0 where
  pub start : Date
  pub starts : rule_start c a.start ≡ Ok start
  pub day : ℤ
  pub within : day ≤ℤ a.header.last
  pub lines : AreRuleLines c shown rule start a.header.first day text

-- the text by a rule, and the status that it ends with; if the sink counts a fault, a prefix of the text is written, or
-- of what begins it
abbrev pub EndsFrom : CalendarSystem → CalendarSystem → RruleAsked → RecurrenceRule → List ℕ → Status → Type 0
EndsFrom c shown a rule text status =
    ((refused : Bool) × ListsFrom c shown a rule text refused × (status ≡ status_of refused))
    ⊎ ((status ≡ WriteFault) × BeginsFrom c shown a rule text)

-- the answer to the text of a rule: by the rule, or its first error
abbrev pub IsAnswerToRule : RruleAsked → TableContents → Result (List ℕ) (List ℕ) → Type 0
IsAnswerToRule a tables answer =
    let c = kind_system tables a.header.calendar in
    let shown = kind_system tables a.header.shown in
    ((rule : RecurrenceRule) × IsRuleText a.header.calendar a.rule rule
    × IsAnswerFrom c shown rule a.header.first a.header.last (rule_start c a.start) answer)
    ⊎ ((error : RuleError) × (rule_fault a.header.calendar a.rule ≡ Some error)
    × (answer ≡ Err (rule_error_text error)))

-- the answer over tables: first the window is tested, then the rule, then the start
abbrev pub IsRruleAnswer : RruleAsked → TableContents → Result (List ℕ) (List ℕ) → Type 0
IsRruleAnswer a tables answer =
    MatchBool (is_window a.header.first a.header.last) (IsAnswerToRule a tables answer)
    (answer ≡ Err (codes "InvalidWindow"))

-- the text of `rrule`, and whether it is a refusal
abbrev pub ListsRule : RruleAsked → TableContents → List ℕ → Bool → Type 0
ListsRule a tables text refused =
    (answer : Result (List ℕ) (List ℕ)) × IsRruleAnswer a tables answer × IsListText answer text refused

-- the text of `rrule` and the status that it ends with; if the sink counts a fault, a prefix of the text is written, or
-- of what begins it
abbrev pub EndsRule : RruleAsked → TableContents → List ℕ → Status → Type 0
EndsRule a tables text status =
    list_end (ListsRule a) tables text status
    ⊎ ((status ≡ WriteFault) × (is_window a.header.first a.header.last ≡ true)
    × (rule : RecurrenceRule) × IsRuleText a.header.calendar a.rule rule
    × BeginsFrom (kind_system tables a.header.calendar) (kind_system tables a.header.shown) a rule text)
