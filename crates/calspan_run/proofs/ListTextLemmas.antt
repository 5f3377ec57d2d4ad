-- The texts of lists: there is one over any tables, and one only.
use Rattle.std.proofs.Common.{◌≡◌, ℕ, zero, suc, ◌*◌, ◌==◌, ℤ, Bool, true, false, cond, List, Option, Some, None, MatchBool, Result, Ok, Err, codes, refl, sym, ap, ◌∙◌, arith}
use Rattle.std.proofs.lemmas.Bool.{false≢true}
use Rattle.std.specs.Option.{option_and_then}
use Rattle.cal_days.specs.Day.{is_between}
use Rattle.cal_errors.specs.declared.errors.DateFromFieldsError.{DateFromFieldsError}
use Rattle.cal_types.specs.CalendarList.{Date}
use Rattle.cal_types.specs.CalendarSystem.{CalendarSystem, resolve_fields}
use Rattle.cal_recur.specs.Listing.{gathered, index_count, occurrences}
use Rattle.cal_recur.specs.Occurrence.{occurrence}
use Rattle.cal_recur.specs.Rule.{IsRule, overflow_of}
use Rattle.cal_recur.specs.declared.recurrence.Occurrence.{Occurrence}
use Rattle.cal_recur.specs.declared.rule.Missing.{Missing}
use Rattle.cal_recur.specs.declared.rule.Rule.{Rule}
use Rattle.cal_types.specs.declared.duration.DateDurationUnit.{DateDurationUnit}
use Rattle.cal_tables.specs.Kinds.{TableContents, kind_system}
use Rattle.calspan_run.specs.Anniversaries.{anniversary_answer}
use Rattle.command_line.specs.Asked.{AnniversaryAsked, RecurAsked}
use Rattle.calspan_run.specs.DayLines.{IsListText, is_refused, is_window, list_text, occurrence_line}
use Rattle.calspan_run.specs.Laws.{IsList}
use Rattle.calspan_run.specs.ListTexts.{ListsAnniversaries, ListsOccurrences}
use Rattle.calspan_run.specs.Recurrences.{IsAnswerByRule, answer_by_rule, no_options, occurrence_lines}
use Rattle.calspan_run.specs.TextSoFar.{lines_text}

text_unique : (a b : Result (List ℕ) (List ℕ)) (x y : List ℕ) (p q : Bool) → a ≡ b → IsListText a x p → IsListText b y q → (x ≡ y) × (p ≡ q)
text_unique a b x y p q same (e, f) (g, h) = (e ∙ (ap list_text same ∙ sym g), f ∙ (ap is_refused same ∙ sym h))

-- `anniversary`
pub anniversary_list : (a : AnniversaryAsked) → IsList (ListsAnniversaries a)
anniversary_list a = record {
  exists = λ tables. (list_text (anniversary_answer a tables), is_refused (anniversary_answer a tables), (refl, refl));
  unique = λ tables x y p q h k. text_unique (anniversary_answer a tables) (anniversary_answer a tables) x y p q refl h k;
}

-- `recur`: the occurrences of a rule are told by its parts
abbrev occurrence_at : CalendarSystem → Date → ℤ → ℤ → DateDurationUnit → ℕ → Missing → ℕ → Option Occurrence
occurrence_at c start first last unit every missing k =
    option_and_then (λ n. cond (is_between first last n) (Some (record { index = k; day = n })) None)
    (occurrence c.list c.year_shift start unit (overflow_of missing) (k * every))

same_occurrences : (c : CalendarSystem) (start : Date) (r s : Rule) (first last : ℤ) → r.unit ≡ s.unit → r.every ≡ s.every → r.missing ≡ s.missing → occurrences c start r first last ≡ occurrences c start s first last
same_occurrences c start r s first last e f g =
    ap (λ (u : DateDurationUnit). gathered (occurrence_at c start first last u r.every r.missing) index_count) e
    ∙ (ap (λ (n : ℕ). gathered (occurrence_at c start first last s.unit n r.missing) index_count) f
    ∙ ap (λ (m : Missing). gathered (occurrence_at c start first last s.unit s.every m) index_count) g)

by_parts : (a : RecurAsked) (tables : TableContents) (r s : Rule) → IsRule a.header.unit a.header.every a.header.missing r → IsRule a.header.unit a.header.every a.header.missing s → answer_by_rule a tables r ≡ answer_by_rule a tables s
by_parts a tables r s h k = by (resolve_fields c a.start no_options)
  where
    c : CalendarSystem
    c = kind_system tables a.header.calendar

    shown : CalendarSystem
    shown = kind_system tables a.header.shown

    by : (o : Result Date DateFromFieldsError) → occurrence_lines c shown a r o ≡ occurrence_lines c shown a s o
    by (Ok start) =
        ap (λ (xs : List Occurrence). Ok (lines_text (occurrence_line c shown) xs))
        (same_occurrences c start r s a.header.first a.header.last (h.unit ∙ sym k.unit) (h.every ∙ sym k.every) (h.missing ∙ sym k.missing))
    by (Err cause) = refl

-- the answer by a rule, and that over tables, where the window is tested
abbrev Is : (a : RecurAsked) (tables : TableContents) → Result (List ℕ) (List ℕ) → Type 0
Is a tables answer = (rule : Rule) × IsRule a.header.unit a.header.every a.header.missing rule × (answer ≡ answer_by_rule a tables rule)

rule_unique : (a : RecurAsked) (tables : TableContents) (none : Bool) (x y : Result (List ℕ) (List ℕ)) → MatchBool none (x ≡ Err (codes "Every")) (Is a tables x) → MatchBool none (y ≡ Err (codes "Every")) (Is a tables y) → x ≡ y
rule_unique a tables true x y h k = h ∙ sym k
rule_unique a tables false x y (r, is, e) (s, is2, f) = e ∙ (by_parts a tables r s is is2 ∙ sym f)

answer_unique : (a : RecurAsked) (tables : TableContents) (window : Bool) (x y : Result (List ℕ) (List ℕ)) → MatchBool window (IsAnswerByRule a tables x) (x ≡ Err (codes "InvalidWindow")) → MatchBool window (IsAnswerByRule a tables y) (y ≡ Err (codes "InvalidWindow")) → x ≡ y
answer_unique a tables true x y h k = rule_unique a tables (a.header.every == 0) x y h k
answer_unique a tables false x y h k = h ∙ sym k

abbrev rule_of : (unit : DateDurationUnit) (missing : Missing) (n : ℕ) → Rule
rule_of unit missing n = record { unit = unit; every = suc n; missing = missing; some = omega arith }

rule_exists : (a : RecurAsked) (tables : TableContents) (every : ℕ) (none : Bool) → every ≡ a.header.every → none ≡ (every == 0) → (answer : Result (List ℕ) (List ℕ)) × MatchBool none (answer ≡ Err (codes "Every")) (Is a tables answer)
rule_exists a tables every true e f = (Err (codes "Every"), refl)
rule_exists a tables zero false e f = absurd (false≢true f)
rule_exists a tables (suc n) false e f =
    let rule = rule_of a.header.unit a.header.missing n in
    (answer_by_rule a tables rule, (rule, record { unit = refl; every = e; missing = refl }, refl))

answer_exists : (a : RecurAsked) (tables : TableContents) (window : Bool) → (answer : Result (List ℕ) (List ℕ)) × MatchBool window (IsAnswerByRule a tables answer) (answer ≡ Err (codes "InvalidWindow"))
answer_exists a tables true = rule_exists a tables a.header.every (a.header.every == 0) refl refl
answer_exists a tables false = (Err (codes "InvalidWindow"), refl)

pub recur_list : (a : RecurAsked) → IsList (ListsOccurrences a)
recur_list a = record {
  exists = λ tables. let (answer, is) = answer_exists a tables (is_window a.header.first a.header.last) in (list_text answer, is_refused answer, (answer, is, (refl, refl)));
  unique = λ tables x y p q h k.
      let (m, is, texts) = h in
      let (n, is2, texts2) = k in
      text_unique m n x y p q (answer_unique a tables (is_window a.header.first a.header.last) m n is is2) texts texts2;
}
