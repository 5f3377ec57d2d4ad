-- The text of the list of a rule.
use Rattle.std.proofs.Common.{◌≡◌, Bool, true, false, MatchBool, List, ℕ, ℤ, Option, Some, Result, Ok, Err, codes, if◌then◌else◌, inl, inr, refl, sym, ap, subst, subst₂, ◌⊎◌, ◌≤ℤ◌}
use Rattle.byte_io.specs.declared.Failed.{Failed}
use Rattle.cal_days.specs.Day.{is_valid_day}
use Rattle.cal_errors.specs.declared.errors.DateFromFieldsError.TheVariants.{Overflow}
use Rattle.cal_types.proofs.DayDateLemmas.{date_on-on}
use Rattle.cal_types.proofs.ListLemmas.{on-unique}
use Rattle.cal_types.specs.DayDates.{date_on}
use Rattle.cal_types.specs.CalendarList.{Date, IsLawful, IsOn}
use Rattle.cal_types.specs.CalendarSystem.{CalendarSystem}
use Rattle.cal_errors.specs.declared.errors.DateFromFieldsError.{DateFromFieldsError}
use Rattle.cal_rrule.specs.Occurrences.{AreOccurrences}
use Rattle.recurrence_sets.specs.declared.occurrence.Occurrence.{Occurrence}
use Rattle.cal_rule.specs.RuleText.{IsRuleText, rule_fault}
use Rattle.cal_rule.specs.declared.rule.RecurrenceRule.{RecurrenceRule}
use Rattle.cal_rule.specs.declared.rule_error.RuleError.{RuleError}
use Rattle.cal_tables.specs.Kinds.{TableContents, kind_system}
use Rattle.reply_texts.specs.DateTexts.{cause_text}
use Rattle.calspan_run.specs.DayLines.{IsListEnd, is_window}
use Rattle.calspan_run.specs.Endings.{EndsList}
use Rattle.command_line.specs.RruleAsked.{OnDay, RruleAsked}
use Rattle.calspan_run.specs.RuleErrors.{rule_error_text}
use Rattle.calspan_run.specs.RuleLists.{AreRuleLines, EndsFrom, EndsRule, IsAnswerFrom, IsAnswerToRule, IsRruleAnswer, rule_line, rule_start}
use Rattle.calspan_run.specs.TextSoFar.{lines_text}
use Rattle.calspan_run.specs.declared.status.Status.{Status}
use Rattle.calspan_run.specs.declared.status.Status.TheVariants.{Done, WriteFault}

module _ (r : Result Bool Failed) (before now : Option (List ℕ)) (a : RruleAsked) (tables : TableContents) where
  listed : (r : Result Bool Failed) (x : Result (List ℕ) (List ℕ)) → IsRruleAnswer a tables x → EndsList r before now (IsListEnd x) → EndsList r before now (EndsRule a tables)
  listed (Ok refused) x is (text, (f, lists, e), wrote) = (text, inl (f, (x, is, lists), e), wrote)
  listed (Err failed) x is (text, status, (f, lists, e), wrote) = (text, status, inl (f, (x, is, lists), e), wrote)

  in_window : (x : Result (List ℕ) (List ℕ)) → is_window a.header.first a.header.last ≡ true → IsAnswerToRule a tables x → IsRruleAnswer a tables x
  in_window x e h = subst (λ (b : Bool). MatchBool b (IsAnswerToRule a tables x) (x ≡ Err (codes "InvalidWindow"))) (sym e) h

  pub rule_window_refused : is_window a.header.first a.header.last ≡ false → EndsList r before now (IsListEnd (Err (codes "InvalidWindow"))) → EndsList r before now (EndsRule a tables)
  rule_window_refused e h =
      let x : Result (List ℕ) (List ℕ) = Err (codes "InvalidWindow") in
      listed r x (subst (λ (b : Bool). MatchBool b (IsAnswerToRule a tables x) (x ≡ Err (codes "InvalidWindow"))) (sym e) refl) h

  pub rule_refused : (error : RuleError) → is_window a.header.first a.header.last ≡ true → rule_fault a.header.calendar a.rule ≡ Some error → EndsList r before now (IsListEnd (Err (rule_error_text error))) → EndsList r before now (EndsRule a tables)
  rule_refused error window fault h = listed r (Err (rule_error_text error)) (in_window (Err (rule_error_text error)) window (inr (error, fault, refl))) h

  pub rule_listed : (rule : RecurrenceRule) → is_window a.header.first a.header.last ≡ true → IsRuleText a.header.calendar a.rule rule → EndsList r before now (EndsFrom (kind_system tables a.header.calendar) (kind_system tables a.header.shown) a rule) → EndsList r before now (EndsRule a tables)
  rule_listed rule window is h = by r h
    where
      ended : (text : List ℕ) (status : Status) → EndsFrom (kind_system tables a.header.calendar) (kind_system tables a.header.shown) a rule text status → EndsRule a tables text status
      ended text status (inl (f, (x, from, lists), e)) = inl (f, (x, in_window x window (inl (rule, is, from)), lists), e)
      ended text status (inr (e, begins)) = inr (e, window, rule, is, begins)

      by : (r : Result Bool Failed) → EndsList r before now (EndsFrom (kind_system tables a.header.calendar) (kind_system tables a.header.shown) a rule) → EndsList r before now (EndsRule a tables)
      by (Ok refused) (text, ends, wrote) = (text, ended text _ ends, wrote)
      by (Err failed) (text, status, ends, wrote) = (text, status, ended text status ends, wrote)

module _ (c shown : CalendarSystem) (a : RruleAsked) (rule : RecurrenceRule) (start : Date) (starts : rule_start c a.start ≡ Ok start) where
  -- all occurrences of the window were given
  pub all_listed : (first last : ℤ) → first ≡ a.header.first → last ≡ a.header.last → (xs : List Occurrence) → AreOccurrences c.list rule start first last xs → EndsFrom c shown a rule (lines_text (rule_line c shown) xs) Done
  all_listed first last e f xs are =
      let text = lines_text (rule_line c shown) xs in
      let lines : AreRuleLines c shown rule start a.header.first a.header.last text =
      (xs, subst₂ (λ (m n : ℤ). AreOccurrences c.list rule start m n xs) e f are, refl) in
      inl (
        false,
        (Ok text, subst (λ (o : Result Date DateFromFieldsError). IsAnswerFrom c shown rule a.header.first a.header.last o (Ok text)) (sym starts) (text, lines, refl), (refl, refl)),
        refl,
      )

  -- those up to a day were given
  pub some_listed : (first last day : ℤ) → first ≡ a.header.first → last ≡ a.header.last → day ≤ℤ last → (xs : List Occurrence) → AreOccurrences c.list rule start first day xs → EndsFrom c shown a rule (lines_text (rule_line c shown) xs) WriteFault
  some_listed first last day e f within xs are =
      inr (
        refl,
        record {
          start = start;
          starts = starts;
          day = day;
          within = subst (λ (n : ℤ). day ≤ℤ n) f within;
          lines = (xs, subst (λ (m : ℤ). AreOccurrences c.list rule start m day xs) e are, refl);
        },
      )

-- the start is refused
pub none_listed : (c shown : CalendarSystem) (a : RruleAsked) (rule : RecurrenceRule) (cause : DateFromFieldsError) → rule_start c a.start ≡ Err cause → (r : Result Bool Failed) (before now : Option (List ℕ)) → EndsList r before now (IsListEnd (Err (cause_text cause))) → EndsList r before now (EndsFrom c shown a rule)
none_listed c shown a rule cause fault r before now h = by r h
  where
    answer : IsAnswerFrom c shown rule a.header.first a.header.last (rule_start c a.start) (Err (cause_text cause))
    answer = subst (λ (o : Result Date DateFromFieldsError). IsAnswerFrom c shown rule a.header.first a.header.last o (Err (cause_text cause))) (sym fault) refl

    by : (r : Result Bool Failed) → EndsList r before now (IsListEnd (Err (cause_text cause))) → EndsList r before now (EndsFrom c shown a rule)
    by (Ok refused) (text, (f, lists, e), wrote) = (text, inl (f, (Err (cause_text cause), answer, lists), e), wrote)
    by (Err failed) (text, status, (f, lists, e), wrote) = (text, status, inl (f, (Err (cause_text cause), answer, lists), e), wrote)

-- the date of a valid day is the start on it
pub day_start : (s : CalendarSystem) → IsLawful s.list → (day n : ℤ) (t : Date) → n ≡ day → is_valid_day day ≡ true → IsOn s.list n t → rule_start s (OnDay day) ≡ Ok t
day_start s law day n t same valid on =
    let here : IsOn s.list day t = subst (λ (m : ℤ). IsOn s.list m t) same on in
    subst (λ (b : Bool). (if b then Ok (date_on s.list day) else Err Overflow) ≡ Ok t) (sym valid)
    (ap Ok (sym (on-unique s.list day t (date_on s.list day) here (date_on-on s.list law day))))
