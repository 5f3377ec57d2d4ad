-- The texts of a rule's values, by part.
use Rattle.std.specs.Prelude.{◌≡◌, ℕ, List, [], Option, Some, None, Result, Ok, Err, get_or}
use Rattle.std.specs.Option.{option_map, option_or}
use Rattle.cal_kinds.specs.declared.any_calendar_kind.AnyCalendarKind.{AnyCalendarKind}
use Rattle.cal_rule.specs.RuleNames.{part_place}
use Rattle.cal_rule.specs.RuleText.{first_fault, value_of}
use Rattle.cal_rule.specs.declared.rule_error.RuleError.{RuleError}
use Rattle.cal_rule.specs.declared.rule_part.RulePart.{RulePart}
use Rattle.cal_rule.specs.declared.text_table.RuleTexts.{RuleTexts}

-- the value of a part
abbrev pub text_of : RuleTexts → RulePart → Option (List ℕ)
text_of texts p = option_map (λ text. text.now) (get_or texts.texts (part_place p) None)

-- what more is said is added to what was said, unless there is a fault, which is returned
abbrev pub IsAdded : {A : Type 0} → Result A RuleError → Option RuleError → (RulePart → Option (List ℕ)) →
    (RulePart → Option (List ℕ)) → (RulePart → Option (List ℕ)) → Type 0
IsAdded (Ok _) fault more old new = (fault ≡ None) × ((p : RulePart) → new p ≡ option_or (old p) (more p))
IsAdded (Err e) fault more old new = fault ≡ Some e

-- the values of some texts, where each is a part and no part comes twice, and else what is wrong with the first
abbrev pub IsSplit : AnyCalendarKind → List (List ℕ) → Result RuleTexts RuleError → Type 0
IsSplit kind texts (Ok table) = (first_fault kind [] texts ≡ None) × (text_of table ≡ value_of texts)
IsSplit kind texts (Err e) = first_fault kind [] texts ≡ Some e
