-- Whether the rule that a text spells has an occurrence on a day.
use Rattle.std.proofs.Common.{◌≡◌, ℕ, List, Option, Some, None, refl, sym, ◌∙◌, ℤ}
use Rattle.cal_kinds.specs.declared.any_calendar_kind.AnyCalendarKind.{AnyCalendarKind}
use Rattle.cal_types.specs.CalendarList.{CalendarList, Date, IsDate, IsLawful}
use Rattle.cal_rule.specs.RuleText.{IsRuleText, rule_fault}
use Rattle.cal_rule.specs.declared.rule.RecurrenceRule.{RecurrenceRule}
use Rattle.cal_rule.specs.declared.rule_error.RuleError.{RuleError}
use Rattle.cal_rrule.specs.Occurrences.{IsKept, bounds_of}
use Rattle.recurrence_sets.specs.Occurrences.{IsOfSome}
use Rattle.rule_lists.proofs.AlikeRules.{alike-occurs, said-alike}
use Rattle.rule_lists.proofs.Deciding.{like}
use Rattle.rule_lists.proofs.OccurrenceLists.{some-decided}
use Rattle.rule_lists.proofs.PeriodDeciding.{of_some}
use Rattle.rule_lists.proofs.RuleTexts.{rule-exists}
use Rattle.rule_lists.specs.TextOccurrences.{OccursByText}

module _ (c : CalendarList) (law : IsLawful c) (kind : AnyCalendarKind) (text : List ℕ) (t : Date) (is : IsDate c t) (n : ℤ) where
  pub by_text : Dec (OccursByText c kind text t n)
  by_text = by (rule_fault kind text) refl
    where
      some : (rule : RecurrenceRule) → IsRuleText kind text rule → Dec (OccursByText c kind text t n)
      some rule said =
          like (λ (index, occurs). (rule, said, index, occurs))
          (λ (other, said2, index, occurs). (index, alike-occurs c other rule t index n (said-alike kind text other rule said2 said) occurs))
          (some-decided (IsOfSome (IsKept c rule t)) (of_some c law rule t is) (bounds_of c rule t) n)

      by : (fault : Option RuleError) → rule_fault kind text ≡ fault → Dec (OccursByText c kind text t n)
      by None e = let (rule, said) = rule-exists kind text e in some rule said
      by (Some error) e = no (λ (rule, said, index, occurs). let wrong : None ≡ Some error = sym said.faultless ∙ e in cc)
