-- The lists of occurrences of recurrence rules.
use Rattle.std.specs.Prelude.{◌≡◌, ◌⊎◌, List, ℤ}
use Rattle.cal_types.specs.CalendarList.{CalendarList, Date, IsDate, IsLawful}
use Rattle.cal_rule.specs.declared.rule.RecurrenceRule.{RecurrenceRule}
use Rattle.cal_rrule.specs.Listing.{AreDayItems, AreOnDays}
use Rattle.cal_rrule.specs.Occurrences.{AreOccurrences, Recurs}
use Rattle.recurrence_sets.specs.declared.occurrence.Occurrence.{Occurrence}

-- on every day a rule recurs or doesn't, from any date of a calendar on
abbrev pub RecurrenceIsDecided : Type 0
RecurrenceIsDecided =
    (c : CalendarList) (rule : RecurrenceRule) (t : Date) → IsLawful c → IsDate c t
    → (n : ℤ) → Recurs c rule t n ⊎ ¬ (Recurs c rule t n)

-- every rule has a list of its occurrences from one day to another
abbrev pub RulesHaveLists : Type 0
RulesHaveLists =
    (c : CalendarList) (rule : RecurrenceRule) (t : Date) → IsLawful c → IsDate c t
    → (first last : ℤ) → (xs : List Occurrence) × AreOccurrences c rule t first last xs

-- and no rule has two
abbrev pub RuleListsAreUnique : Type 0
RuleListsAreUnique =
    (c : CalendarList) (rule : RecurrenceRule) (t : Date) (first last : ℤ) (xs ys : List Occurrence)
    → AreOccurrences c rule t first last xs → AreOccurrences c rule t first last ys → xs ≡ ys

-- a list of days alone has exactly the days of the rule's occurrences from one day to another
abbrev pub DayListsAreExact : Type 0
DayListsAreExact =
    (c : CalendarList) (rule : RecurrenceRule) (t : Date) → IsLawful c → IsDate c t
    → (first last : ℤ) (xs : List Occurrence) → AreDayItems c rule t first last xs → AreOnDays c rule t first last xs
