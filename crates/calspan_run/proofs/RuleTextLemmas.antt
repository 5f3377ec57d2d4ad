-- The text of the list of a rule: there is one over any tables, and one only.
use Rattle.std.proofs.Common.{◌≡◌, ℕ, Bool, true, false, List, Option, Some, None, MatchBool, Result, Ok, Err, codes, if◌then◌else◌, inl, inr, refl, sym, ap, subst, ◌∙◌, ◌⊎◌}
use Rattle.cal_days.specs.Day.{is_valid_day}
use Rattle.cal_errors.specs.declared.errors.DateFromFieldsError.{DateFromFieldsError}
use Rattle.cal_errors.specs.declared.errors.DateFromFieldsError.TheVariants.{Overflow}
use Rattle.cal_rule.specs.RuleText.{IsRuleText, rule_fault}
use Rattle.cal_rule.specs.declared.rule.RecurrenceRule.{RecurrenceRule}
use Rattle.cal_rule.specs.declared.rule_error.RuleError.{RuleError}
use Rattle.cal_tables.proofs.KindLemmas.{kind_lawful}
use Rattle.cal_tables.specs.Kinds.{TableContents, kind_system}
use Rattle.cal_types.proofs.DayDateLemmas.{date_on-on}
use Rattle.cal_types.proofs.ResolvingLemmas.{resolve-date}
use Rattle.cal_types.specs.CalendarList.{Date, IsDate, IsLawful}
use Rattle.cal_types.specs.CalendarSystem.{CalendarSystem}
use Rattle.cal_types.specs.DayDates.{date_on}
use Rattle.cal_types.specs.Resolving.{missing_fields_of, overflow_of}
use Rattle.command_line.specs.RruleAsked.{RruleAsked, RruleStart, OnDay, OfFields}
use Rattle.recurrence_sets.specs.declared.occurrence.Occurrence.{Occurrence}
use Rattle.reply_texts.specs.DateTexts.{cause_text}
use Rattle.rule_lists.proofs.AlikeRules.{Alike, alike-occurrences, said-alike}
use Rattle.rule_lists.proofs.ListLemmas.{list-exists, list-unique}
use Rattle.rule_lists.proofs.RuleTexts.{rule-exists}
use Rattle.calspan_run.specs.DayLines.{IsListText, is_refused, is_window, list_text}
use Rattle.calspan_run.specs.Laws.{IsList}
use Rattle.calspan_run.specs.Recurrences.{no_options}
use Rattle.calspan_run.specs.RuleErrors.{rule_error_text}
use Rattle.calspan_run.specs.RuleLists.{IsAnswerFrom, IsAnswerToRule, ListsRule, rule_line, rule_start}
use Rattle.calspan_run.specs.TextSoFar.{lines_text}

none_some : {A : Type 0} {x : A} → None ≡ Some x → ⊥
none_some e = cc

some_same : {A : Type 0} {x y : A} → Some x ≡ Some y → x ≡ y
some_same e = cc

-- a start is a date
start_date : (s : CalendarSystem) → IsLawful s.list → (start : RruleStart) (t : Date) → rule_start s start ≡ Ok t → IsDate s.list t
start_date s law (OnDay n) t e = by (is_valid_day n) e
  where
    by : (b : Bool) → (if b then Ok (date_on s.list n) else Err Overflow) ≡ Ok t → IsDate s.list t
    by true h = let same : date_on s.list n ≡ t = cc in subst (IsDate s.list) same (date_on-on s.list law n).date
    by false h = absurd cc
start_date s law (OfFields bag) t e =
    (resolve-date s.list law s.year_names bag (overflow_of no_options.overflow) (missing_fields_of no_options.missing_fields_strategy) t e).0

module _ (a : RruleAsked) (tables : TableContents) where
  abbrev c : CalendarSystem
  c = kind_system tables a.header.calendar

  abbrev shown : CalendarSystem
  shown = kind_system tables a.header.shown

  law : IsLawful c.list
  law = kind_lawful tables a.header.calendar

  -- the answer by a rule
  from_exists : (rule : RecurrenceRule) (o : Result Date DateFromFieldsError) → rule_start c a.start ≡ o →
      (answer : Result (List ℕ) (List ℕ)) × IsAnswerFrom c shown rule a.header.first a.header.last o answer
  from_exists rule (Ok start) e =
      let (xs, are) = list-exists c.list rule start law (start_date c law a.start start e) a.header.first a.header.last in
      (Ok (lines_text (rule_line c shown) xs), (lines_text (rule_line c shown) xs, (xs, are, refl), refl))
  from_exists rule (Err cause) e = (Err (cause_text cause), refl)

  from_unique : (rule other : RecurrenceRule) → Alike rule other → (o : Result Date DateFromFieldsError) (x y : Result (List ℕ) (List ℕ)) →
      IsAnswerFrom c shown rule a.header.first a.header.last o x → IsAnswerFrom c shown other a.header.first a.header.last o y → x ≡ y
  from_unique rule other alike (Ok start) x y (text, (xs, are, e), f) (text2, (ys, are2, g), h) =
      let moved = alike-occurrences c.list rule other start a.header.first a.header.last xs alike are in
      let same = list-unique c.list other start a.header.first a.header.last xs ys moved are2 in
      f ∙ (ap (λ (t : List ℕ). Ok t) (e ∙ (ap (lines_text (rule_line c shown)) same ∙ sym g)) ∙ sym h)
  from_unique rule other alike (Err cause) x y e f = e ∙ sym f

  -- the answer to the text of a rule
  text_exists : (fault : Option RuleError) → rule_fault a.header.calendar a.rule ≡ fault → (answer : Result (List ℕ) (List ℕ)) × IsAnswerToRule a tables answer
  text_exists None e =
      let (rule, is) = rule-exists a.header.calendar a.rule e in
      let (answer, from) = from_exists rule (rule_start c a.start) refl in
      (answer, inl (rule, is, from))
  text_exists (Some error) e = (Err (rule_error_text error), inr (error, e, refl))

  text_unique : (x y : Result (List ℕ) (List ℕ)) → IsAnswerToRule a tables x → IsAnswerToRule a tables y → x ≡ y
  text_unique x y (inl (rule, is, from)) (inl (other, is2, from2)) =
      from_unique rule other (said-alike a.header.calendar a.rule rule other is is2) (rule_start c a.start) x y from from2
  text_unique x y (inl (rule, is, from)) (inr (error, fault, e)) = absurd (none_some (sym is.faultless ∙ fault))
  text_unique x y (inr (error, fault, e)) (inl (rule, is, from)) = absurd (none_some (sym is.faultless ∙ fault))
  text_unique x y (inr (error, fault, e)) (inr (error2, fault2, e2)) =
      let same : error ≡ error2 = some_same (sym fault ∙ fault2) in
      e ∙ (ap (λ (r : RuleError). Err (rule_error_text r)) same ∙ sym e2)

  -- and the answer over tables, where the window is tested
  answer_exists : (window : Bool) → (answer : Result (List ℕ) (List ℕ)) × MatchBool window (IsAnswerToRule a tables answer) (answer ≡ Err (codes "InvalidWindow"))
  answer_exists true = text_exists (rule_fault a.header.calendar a.rule) refl
  answer_exists false = (Err (codes "InvalidWindow"), refl)

  answer_unique : (window : Bool) (x y : Result (List ℕ) (List ℕ)) → MatchBool window (IsAnswerToRule a tables x) (x ≡ Err (codes "InvalidWindow")) →
      MatchBool window (IsAnswerToRule a tables y) (y ≡ Err (codes "InvalidWindow")) → x ≡ y
  answer_unique true x y h k = text_unique x y h k
  answer_unique false x y h k = h ∙ sym k

-- `rrule`
pub rule_list : (a : RruleAsked) → IsList (ListsRule a)
rule_list a = record {
  exists = λ tables. let (answer, is) = answer_exists a tables (is_window a.header.first a.header.last) in (list_text answer, is_refused answer, (answer, is, (refl, refl)));
  unique = λ tables x y p q h k.
      let (m, is, (e, f)) = h in
      let (n, is2, (g, i)) = k in
      let same = answer_unique a tables (is_window a.header.first a.header.last) m n is is2 in
      (e ∙ (ap list_text same ∙ sym g), f ∙ (ap is_refused same ∙ sym i));
}
