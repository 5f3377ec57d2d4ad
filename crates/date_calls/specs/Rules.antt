-- What is answered about the occurrences of recurrence rules of iCalendar.
use Rattle.std.specs.Prelude.{◌≡◌, ℕ, ◌<◌, ◌≤◌, ℤ, pos, ◌+ℤ◌, List, ◌++◌, drop, length, map, take, Option, Some, None, MatchBool, MatchOption}
use Rattle.cal_days.specs.Day.{is_valid_day}
use Rattle.cal_kinds.specs.declared.any_calendar_kind.AnyCalendarKind.{AnyCalendarKind}
use Rattle.cal_rrule.specs.Occurrences.{AreOccurrences}
use Rattle.cal_rule.specs.RuleText.{IsRuleText, rule_fault}
use Rattle.cal_rule.specs.declared.rule.RecurrenceRule.{RecurrenceRule}
use Rattle.cal_rule.specs.declared.rule_error.RuleError.{RuleError}
use Rattle.cal_rule.specs.declared.rule_error.RuleError.TheVariants as error
use Rattle.cal_rule.specs.declared.rule_part.RulePart.{RulePart}
use Rattle.cal_rule.specs.declared.rule_part.RulePart.TheVariants as part
use Rattle.cal_tables.specs.Kinds.{TableContents, kind_system}
use Rattle.cal_types.specs.CalendarList.{Date, IsOn}
use Rattle.cal_types.specs.CalendarSystem.{CalendarSystem}
use Rattle.cal_types.specs.declared.window.Window.{Window}
use Rattle.recurrence_sets.specs.Occurrences as sets
use Rattle.recurrence_sets.specs.declared.bounds.Bounds.{Bounds}
use Rattle.recurrence_sets.specs.declared.occurrence.Occurrence.{Occurrence}
use Rattle.date_calls.specs.Lists.{EndsOn, IsUnlisted, is_window}
use Rattle.date_calls.specs.declared.lists.Listed.{Listed}
use Rattle.date_calls.specs.declared.repeated.CalendarOccurrence.{CalendarOccurrence}
use Rattle.date_calls.specs.declared.rules.CalendarRuleFault.{CalendarRuleFault}

-- the number of a part of a rule
abbrev pub part_number : RulePart → ℕ
part_number part.Freq = 1
part_number part.Until = 2
part_number part.Count = 3
part_number part.Interval = 4
part_number part.BySecond = 5
part_number part.ByMinute = 6
part_number part.ByHour = 7
part_number part.ByDay = 8
part_number part.ByMonthDay = 9
part_number part.ByYearDay = 10
part_number part.ByWeekNo = 11
part_number part.ByMonth = 12
part_number part.BySetPos = 13
part_number part.Wkst = 14
part_number part.Rscale = 15
part_number part.Skip = 16

-- the numbers of a cause, and of the part that it is about; 0 is no part
abbrev pub fault_at : ℕ → ℕ → CalendarRuleFault
fault_at cause part = record { cause = cause; part = part }

-- what is told of the first fault of a text
abbrev pub fault_told : RuleError → CalendarRuleFault
fault_told error.BadPart = fault_at 1 0
fault_told error.UnknownPart = fault_at 2 0
fault_told (error.RepeatedPart p) = fault_at 3 (part_number p)
fault_told (error.TimeNotSupported p) = fault_at 4 (part_number p)
fault_told (error.BadValue p) = fault_at 5 (part_number p)
fault_told (error.ValueOutOfRange p) = fault_at 6 (part_number p)
fault_told error.UnknownCalendar = fault_at 7 0
fault_told error.MismatchedCalendar = fault_at 8 0
fault_told (error.MissingPart p) = fault_at 9 (part_number p)
fault_told error.CountWithUntil = fault_at 10 0
fault_told (error.PartNotAllowed p) = fault_at 11 (part_number p)
fault_told error.OrdinalNotAllowed = fault_at 12 0
fault_told error.SetPosAlone = fault_at 13 0

-- the occurrence that an item tells
abbrev pub occurrence_of : CalendarOccurrence → Occurrence
occurrence_of item = record { index = item.index; day = item.day }

-- items before occurrences
abbrev pub items_before : List CalendarOccurrence → List Occurrence → List Occurrence
items_before items xs = map occurrence_of items ++ xs

-- the first occurrences that were left stand in the column, as many as go into it, and the others are left; what stood
-- behind them is there still
pub record FillsRule (Is : ℤ → Type 0) (b : Bounds) (rest left : Option Window) (before now : List CalendarOccurrence)
    (written : ℕ) : Type 0 where
  pub whole : (xs : List Occurrence) → sets.AreLeft Is b left xs →
      sets.AreLeft Is b rest (items_before (take written now) xs)
  pub behind : drop written now ≡ drop written before
  pub fits : written ≤ length before
  pub complete : written < length before → left ≡ None
  pub ends : (last : ℤ) → EndsOn last rest → EndsOn last left

-- the first of some occurrences stand in a column: with those from a day on, they make up all of them, in order and
-- each once. What stood behind them is there still. If the column has more places, the day is the one after the last
pub record IsRuleListed (Are : ℤ → ℤ → List Occurrence → Type 0) (first last : ℤ)
    (before now : List CalendarOccurrence) (written : ℕ) (next : ℤ) : Type 0 where
  pub whole : (xs : List Occurrence) → Are next last xs → Are first last (items_before (take written now) xs)
  pub behind : drop written now ≡ drop written before
  pub fits : written ≤ length before
  pub complete : written < length before → next ≡ last +ℤ pos 1

-- the first occurrences of a rule from a start stand in the column
pub record AreRuleListed (s : CalendarSystem) (start : ℤ) (rule : RecurrenceRule) (first last : ℤ)
    (before now : List CalendarOccurrence) (listed : Listed) : Type 0 where
  pub date : Date
  pub on : IsOn s.list start date
  pub are : IsRuleListed (AreOccurrences s.list rule date) first last before now listed.written listed.next

-- they are told, and no fault is
pub record TellsRule (kind : AnyCalendarKind) (s : CalendarSystem) (start : ℤ) (text : List ℕ) (first last : ℤ)
    (code : ℕ) (before now : List CalendarOccurrence) (written : ℕ) (next : ℤ)
    (fault_before fault : CalendarRuleFault) : Type 0 where
  pub rule : RecurrenceRule
  pub read : IsRuleText kind text rule
  pub date : Date
  pub on : IsOn s.list start date
  pub done : code ≡ 0
  pub are : IsRuleListed (AreOccurrences s.list rule date) first last before now written next
  pub fault_stands : fault ≡ fault_before

-- a code is told, and all else is as it was
pub record IsRuleLeft (why code : ℕ) (before now : List CalendarOccurrence) (written : ℕ) (next_before next : ℤ)
    (fault_before fault : CalendarRuleFault) : Type 0 where
  pub unlisted : IsUnlisted why code before now written next_before next
  pub fault_stands : fault ≡ fault_before

-- the text is no rule, and its first fault is told
pub record IsRuleRefused (why : RuleError) (code : ℕ) (before now : List CalendarOccurrence) (written : ℕ)
    (next_before next : ℤ) (fault : CalendarRuleFault) : Type 0 where
  pub unlisted : IsUnlisted 22 code before now written next_before next
  pub told : fault ≡ fault_told why

-- the occurrences from a valid day in a window, unless the text has a fault
abbrev pub AnswersRule : AnyCalendarKind → CalendarSystem → ℤ → List ℕ → ℤ → ℤ → ℕ → List CalendarOccurrence
    → List CalendarOccurrence → ℕ → ℤ → ℤ → CalendarRuleFault → CalendarRuleFault → Type 0
AnswersRule kind s start text first last code before now written next_before next fault_before fault =
    MatchOption (rule_fault kind text)
    (TellsRule kind s start text first last code before now written next fault_before fault)
    (λ why. IsRuleRefused why code before now written next_before next fault)

-- the start has to be valid, and the days a window
abbrev pub ListsRule : AnyCalendarKind → CalendarSystem → ℤ → List ℕ → ℤ → ℤ → ℕ → List CalendarOccurrence
    → List CalendarOccurrence → ℕ → ℤ → ℤ → CalendarRuleFault → CalendarRuleFault → Type 0
ListsRule kind s start text first last code before now written next_before next fault_before fault =
    MatchBool (is_valid_day start)
    (MatchBool (is_window first last)
    (AnswersRule kind s start text first last code before now written next_before next fault_before fault)
    (IsRuleLeft 5 code before now written next_before next fault_before fault))
    (IsRuleLeft 4 code before now written next_before next fault_before fault)

-- the occurrences in the calendar of a kind over tables, if there are both
abbrev pub ListsRuleOver : Option AnyCalendarKind → Option TableContents → ℤ → List ℕ → ℤ → ℤ → ℕ
    → List CalendarOccurrence → List CalendarOccurrence → ℕ → ℤ → ℤ → CalendarRuleFault → CalendarRuleFault → Type 0
ListsRuleOver (Some kind) (Some tables) start text first last code before now written next_before next fault_before
    fault =
    ListsRule kind (kind_system tables kind) start text first last code before now written next_before next
    fault_before fault
ListsRuleOver (Some kind) None start text first last code before now written next_before next fault_before fault =
    IsRuleLeft 2 code before now written next_before next fault_before fault
ListsRuleOver None tables start text first last code before now written next_before next fault_before fault =
    IsRuleLeft 1 code before now written next_before next fault_before fault
