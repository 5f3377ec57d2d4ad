-- The lists of occurrences of a rule.
use Rattle.std.proofs.Common.{◌≡◌, List, ℤ}
use Rattle.cal_types.specs.CalendarList.{CalendarList, Date, IsDate, IsLawful}
use Rattle.cal_rule.specs.declared.rule.RecurrenceRule.{RecurrenceRule}
use Rattle.cal_rrule.specs.Occurrences.{AreOccurrences, IsKept, Recurs, bounds_of}
use Rattle.recurrence_sets.specs.Occurrences.{IsOfSome}
use Rattle.recurrence_sets.specs.declared.occurrence.Occurrence.{Occurrence}
use Rattle.rule_lists.proofs.OccurrenceLists.{occurrences-exist, occurrences-unique, recurs-decided}
use Rattle.rule_lists.proofs.PeriodDeciding.{of_some}

module _ (c : CalendarList) (rule : RecurrenceRule) (t : Date) where
  -- on every day the rule recurs or doesn't
  pub rule-decided : IsLawful c → IsDate c t → (n : ℤ) → Dec (Recurs c rule t n)
  rule-decided law is n = recurs-decided (IsOfSome (IsKept c rule t)) (of_some c law rule t is) (bounds_of c rule t) n

  -- there is a list
  pub list-exists : IsLawful c → IsDate c t → (first last : ℤ) → (xs : List Occurrence) × AreOccurrences c rule t first last xs
  list-exists law is first last = occurrences-exist (IsOfSome (IsKept c rule t)) (of_some c law rule t is) (bounds_of c rule t) first last

  -- and there is only one
  pub list-unique : (first last : ℤ) (xs ys : List Occurrence) → AreOccurrences c rule t first last xs → AreOccurrences c rule t first last ys → xs ≡ ys
  list-unique first last xs ys = occurrences-unique (IsOfSome (IsKept c rule t)) (bounds_of c rule t) first last xs ys
