-- A rule is read part by part.
use Rattle.std.proofs.Common.{◌≡◌, ◌∙◌, ℕ, List, [], ◌∷◌, ◌++◌, Option, Some, None, Result, Ok, Err, refl, sym, ap, subst, append_assoc}
use mathlib.Core.Path.{fun_ext}
use Rattle.std.specs.Option.{option_or}
use Rattle.std.specs.Result.{IfErr, IfOk}
use Rattle.cal_kinds.specs.declared.any_calendar_kind.AnyCalendarKind.{AnyCalendarKind}
use Rattle.cal_rule.specs.RuleText.{IsRuleText, IsWhole, first_fault, part_fault, parts_of, rule_fault, said_by, value_of, whole_fault}
use Rattle.cal_rule.specs.TextTable.{IsAdded, IsSplit, text_of}
use Rattle.cal_rule.specs.declared.rule.RecurrenceRule.{RecurrenceRule}
use Rattle.cal_rule.specs.declared.rule_error.RuleError.{RuleError}
use Rattle.cal_rule.specs.declared.rule_part.RulePart.{RulePart}
use Rattle.cal_rule.specs.declared.text_table.RuleTexts.{RuleTexts}

or_none : {A : Type 0} (x : Option A) → x ≡ option_or x None
or_none None = refl
or_none (Some x) = refl

or_assoc : {A : Type 0} (x y z : Option A) → option_or x (option_or y z) ≡ option_or (option_or x y) z
or_assoc None y z = refl
or_assoc (Some x) y z = refl

-- one more text gives a value where none before it does
value_of-more : (texts : List (List ℕ)) (text : List ℕ) (p : RulePart) →
    option_or (value_of texts p) (said_by text p) ≡ value_of (texts ++ text ∷ []) p
value_of-more [] text p = or_none (said_by text p)
value_of-more (first ∷ texts) text p =
    sym (or_assoc (said_by first p) (value_of texts p) (said_by text p))
    ∙ ap (option_or (said_by first p)) (value_of-more texts text p)

-- the parts that are read so far
pub record IsReadingParts (kind : AnyCalendarKind) (table : RuleTexts) (all left : List (List ℕ)) : Type 0 where
  pub earlier : List (List ℕ)
  pub values : text_of table ≡ value_of earlier
  pub faults : first_fault kind [] all ≡ first_fault kind earlier left
  pub whole : all ≡ earlier ++ left

pub parts-begin : (kind : AnyCalendarKind) (table : RuleTexts) (all : List (List ℕ)) →
    ((p : RulePart) → text_of table p ≡ None) → IsReadingParts kind table all all
parts-begin kind table all none = record { earlier = []; values = fun_ext none; faults = refl; whole = refl }

pub parts-go_on : (kind : AnyCalendarKind) (table next : RuleTexts) (all left others : List (List ℕ)) (text : List ℕ) →
    left ≡ text ∷ others → IsReadingParts kind table all left →
    IsAdded {A = Unit {0}} (Ok tt) (part_fault kind (text_of table) text) (said_by text) (text_of table) (text_of next) →
    IsReadingParts kind next all others
parts-go_on kind table next all left others text first r added =
    let good : part_fault kind (value_of r.earlier) text ≡ None =
    subst (λ values. part_fault kind values text ≡ None) r.values added.0 in
    record {
      earlier = r.earlier ++ text ∷ [];
      values = fun_ext (λ p. added.1 p ∙ ap (λ values. option_or (values p) (said_by text p)) r.values
          ∙ value_of-more r.earlier text p);
      faults = r.faults ∙ ap (first_fault kind r.earlier) first
          ∙ ap (λ fault. option_or fault (first_fault kind (r.earlier ++ text ∷ []) others)) good;
      whole = r.whole ∙ ap (λ texts. r.earlier ++ texts) first ∙ sym (append_assoc r.earlier (text ∷ []) others);
    }

-- the first fault ends the reading
pub parts-fail : (kind : AnyCalendarKind) (table next : RuleTexts) (all left others : List (List ℕ)) (text : List ℕ)
    (e : RuleError) → left ≡ text ∷ others → IsReadingParts kind table all left →
    IsAdded {A = Unit {0}} (Err e) (part_fault kind (text_of table) text) (said_by text) (text_of table) (text_of next) →
    IsSplit kind all (Err e)
parts-fail kind table next all left others text e first r added =
    let bad : part_fault kind (value_of r.earlier) text ≡ Some e =
    subst (λ values. part_fault kind values text ≡ Some e) r.values added in
    r.faults ∙ ap (first_fault kind r.earlier) first
    ∙ ap (λ fault. option_or fault (first_fault kind (r.earlier ++ text ∷ []) others)) bad

append_none : {A : Type 0} (xs : List A) → xs ++ [] ≡ xs
append_none [] = refl
append_none (x ∷ xs) = ap (λ ys. x ∷ ys) (append_none xs)

-- and the last part
pub parts-end : (kind : AnyCalendarKind) (table : RuleTexts) (all left : List (List ℕ)) → left ≡ [] →
    IsReadingParts kind table all left → IsSplit kind all (Ok table)
parts-end kind table all left end r =
    let same : r.earlier ≡ all = sym (append_none r.earlier) ∙ ap (λ texts. r.earlier ++ texts) (sym end) ∙ sym r.whole in
    (r.faults ∙ ap (first_fault kind r.earlier) end, r.values ∙ ap value_of same)

-- parts and the whole are in order
pub rule-read : (kind : AnyCalendarKind) (text : List ℕ) (table : RuleTexts) (rule : RecurrenceRule) →
    IsSplit kind (parts_of text) (Ok table) → IsWhole kind (text_of table) (Ok rule) → IsRuleText kind text rule
rule-read kind text table rule split whole =
    let said = subst (λ values. IsWhole kind values (Ok rule)) split.1 whole in
    record { faultless = ap (λ fault. option_or fault (whole_fault (value_of (parts_of text)))) split.0 ∙ said.0; says = said.1 }

-- something is wrong with the whole
pub rule-refused : (kind : AnyCalendarKind) (text : List ℕ) (table : RuleTexts) (e : RuleError) →
    IsSplit kind (parts_of text) (Ok table) → IsWhole kind (text_of table) (Err e) → rule_fault kind text ≡ Some e
rule-refused kind text table e split whole =
    let said = subst (λ values. IsWhole kind values (Err e)) split.1 whole in
    ap (λ fault. option_or fault (whole_fault (value_of (parts_of text)))) split.0 ∙ said

-- or with a part
pub rule-bad : (kind : AnyCalendarKind) (text : List ℕ) (e : RuleError) → IsSplit kind (parts_of text) (Err e) →
    rule_fault kind text ≡ Some e
rule-bad kind text e split = ap (λ fault. option_or fault (whole_fault (value_of (parts_of text)))) split

-- what the whole comes to where each part is in order
pub whole-read : (kind : AnyCalendarKind) (text : List ℕ) (table : RuleTexts) (r : Result RecurrenceRule RuleError) →
    IsSplit kind (parts_of text) (Ok table) → IsWhole kind (text_of table) r → IfOk r (λ rule. IsRuleText kind text rule)
whole-read kind text table (Ok rule) split whole = rule-read kind text table rule split whole
whole-read kind text table (Err e) split whole = tt

pub whole-refused : (kind : AnyCalendarKind) (text : List ℕ) (table : RuleTexts) (r : Result RecurrenceRule RuleError) →
    IsSplit kind (parts_of text) (Ok table) → IsWhole kind (text_of table) r → IfErr r (λ e. rule_fault kind text ≡ Some e)
whole-refused kind text table (Ok rule) split whole = tt
whole-refused kind text table (Err e) split whole = rule-refused kind text table e split whole
