-- What is answered about recurrences.
use Rattle.std.specs.Prelude.{◌≡◌, ℕ, ℤ, nat_eq, List, map, Option, Some, None, MatchBool, if◌then◌else◌}
use Rattle.cal_days.specs.Day.{is_valid_day}
use Rattle.cal_recur.specs.Listing.{occurrences}
use Rattle.cal_recur.specs.declared.recurrence.Occurrence.{Occurrence}
use Rattle.cal_recur.specs.declared.rule.Missing.{Missing}
use Rattle.cal_recur.specs.declared.rule.Missing.TheVariants as missing
use Rattle.cal_recur.specs.declared.rule.Rule.{Rule}
use Rattle.cal_types.specs.CalendarList.{Date, IsOn}
use Rattle.cal_types.specs.CalendarSystem.{CalendarSystem}
use Rattle.cal_types.specs.declared.duration.DateDurationUnit.{DateDurationUnit}
use Rattle.cal_types.specs.declared.options.Overflow.{Overflow}
use Rattle.cal_types.specs.declared.options.Overflow.TheVariants as overflow
use Rattle.date_calls.specs.Lists.{IsListed, IsUnlisted, TellsList, is_window}
use Rattle.date_calls.specs.declared.lists.Listed.{Listed}
use Rattle.date_calls.specs.declared.repeated.CalendarOccurrence.{CalendarOccurrence}

-- an occurrence that leads to no date is skipped, unless it is asked for the nearest date
abbrev pub missing_for : Option Overflow → Missing
missing_for None = missing.Skip
missing_for (Some overflow.Reject) = missing.Skip
missing_for (Some overflow.Constrain) = missing.Constrain

-- the unit of a rule, how many of it, and what becomes of an occurrence that leads to no date
pub record RuleParts : Type 0 where
  pub unit : DateDurationUnit
  pub every : ℕ
  pub missing : Missing

abbrev pub rule_parts : Rule → RuleParts
rule_parts r = record { unit = r.unit; every = r.every; missing = r.missing }

-- at least one unit is counted
abbrev pub parts_if : DateDurationUnit → ℕ → Option Overflow → Option RuleParts
parts_if unit every overflow =
    if nat_eq every 0 then None else Some (record { unit = unit; every = every; missing = missing_for overflow })

-- the rule that is given, if there are such options
abbrev pub rule_given : Option (Option DateDurationUnit) → ℕ → Option (Option Overflow) → Option RuleParts
rule_given (Some (Some unit)) every (Some overflow) = parts_if unit every overflow
rule_given (Some (Some unit)) every None = None
rule_given (Some None) every overflow = None
rule_given None every overflow = None

-- what is told of an occurrence
abbrev pub occurrence_told : Occurrence → CalendarOccurrence
occurrence_told x = record { day = x.day; index = x.index }

-- the occurrences of a rule from one day to another, as they are told
abbrev pub occurrences_told : CalendarSystem → Date → Rule → ℤ → ℤ → List CalendarOccurrence
occurrences_told s t rule first last = map occurrence_told (occurrences s t rule first last)

-- the first occurrences from a start stand in the column
pub record AreListed (s : CalendarSystem) (start : ℤ) (rule : Rule) (first last : ℤ)
    (before now : List CalendarOccurrence) (listed : Listed) : Type 0 where
  pub date : Date
  pub on : IsOn s.list start date
  pub are : IsListed (occurrences_told s date rule) first last before now listed.written listed.next

-- they are told
pub record TellsOccurrences (s : CalendarSystem) (start : ℤ) (parts : RuleParts) (first last : ℤ) (code : ℕ)
    (before now : List CalendarOccurrence) (written : ℕ) (next : ℤ) : Type 0 where
  pub date : Date
  pub on : IsOn s.list start date
  pub rule : Rule
  pub is : rule_parts rule ≡ parts
  pub told : TellsList (occurrences_told s date rule) first last code before now written next

-- the start has to be valid, and the days a window
abbrev pub RecursIn : CalendarSystem → ℤ → RuleParts → ℤ → ℤ → ℕ → List CalendarOccurrence → List CalendarOccurrence
    → ℕ → ℤ → ℤ → Type 0
RecursIn s start parts first last code before now written next_before next =
    MatchBool (is_valid_day start)
    (MatchBool (is_window first last) (TellsOccurrences s start parts first last code before now written next)
    (IsUnlisted 5 code before now written next_before next))
    (IsUnlisted 4 code before now written next_before next)

-- the occurrences of a rule from a start, if the rule is one
abbrev pub ListsOccurrences : CalendarSystem → ℤ → Option RuleParts → ℤ → ℤ → ℕ → List CalendarOccurrence
    → List CalendarOccurrence → ℕ → ℤ → ℤ → Type 0
ListsOccurrences s start (Some parts) first last code before now written next_before next =
    RecursIn s start parts first last code before now written next_before next
ListsOccurrences s start None first last code before now written next_before next =
    IsUnlisted 3 code before now written next_before next
