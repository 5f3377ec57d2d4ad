-- The texts of lists as they are written.
use Rattle.std.proofs.Common.{◌≡◌, ◌≢◌, ℕ, ◌<◌, ◌==◌, Bool, true, false, cond, List, Option, Some, None, Result, Ok, Err, MatchBool, ⊎_elim, codes, refl, sym, ap, subst, arith}
use Rattle.std.proofs.lemmas.Bool.Decides.{eqb_tells}
use Rattle.byte_io.specs.declared.Failed.{Failed}
use Rattle.cal_errors.specs.declared.errors.DateFromFieldsError.{DateFromFieldsError}
use Rattle.cal_types.specs.CalendarList.{Date}
use Rattle.cal_types.specs.CalendarSystem.{CalendarSystem}
use Rattle.cal_anniversary.specs.declared.errors.AnniversaryError.{AnniversaryError}
use Rattle.cal_recur.specs.Listing.{occurrences}
use Rattle.cal_recur.specs.Rule.{IsRule}
use Rattle.cal_recur.specs.declared.rule.Rule.{Rule}
use Rattle.cal_tables.specs.Kinds.{TableContents}
use Rattle.calspan_run.specs.Anniversaries.{unless_fault}
use Rattle.command_line.specs.Asked.{RecurAsked}
use Rattle.calspan_run.specs.DayLines.{IsListEnd, IsListText, is_window, occurrence_line}
use Rattle.calspan_run.specs.Endings.{EndsList}
use Rattle.calspan_run.specs.ListAnswers.{list_end}
use Rattle.calspan_run.specs.ListTexts.{ListsOccurrences}
use Rattle.calspan_run.specs.Recurrences.{IsRecurAnswer, answer_by_rule, occurrence_lines}
use Rattle.calspan_run.specs.TextSoFar.{lines_text}

-- without a fault the lines are the text
pub lines_listed : (fault : Option AnniversaryError) (lines : List ℕ) → None ≡ fault → IsListText (unless_fault fault lines) lines false
lines_listed None lines e = (refl, refl)
lines_listed (Some f) lines e = cc

-- a window that is none is refused
pub window_refused : (r : Result Bool Failed) (before now : Option (List ℕ)) (window : Bool) (x : Result (List ℕ) (List ℕ)) → window ≡ false → EndsList r before now (IsListEnd (Err (codes "InvalidWindow"))) → EndsList r before now (IsListEnd (cond window x (Err (codes "InvalidWindow"))))
window_refused r before now window x e h =
    subst (λ (b : Bool). EndsList r before now (IsListEnd (cond b x (Err (codes "InvalidWindow"))))) (sym e) h

-- where the fields name a start, the lines are the text
pub occurrences_listed : (c shown : CalendarSystem) (a : RecurAsked) (rule : Rule) (o : Result Date DateFromFieldsError) (t : Date) → Ok t ≡ o → IsListText (occurrence_lines c shown a rule o) (lines_text (occurrence_line c shown) (occurrences c t rule a.header.first a.header.last)) false
occurrences_listed c shown a rule o t e =
    subst (λ (x : Result Date DateFromFieldsError). IsListText (occurrence_lines c shown a rule x) (lines_text (occurrence_line c shown) (occurrences c t rule a.header.first a.header.last)) false) e (refl, refl)

-- the text of an answer of `recur`
recur_listed : (r : Result Bool Failed) (before now : Option (List ℕ)) (a : RecurAsked) (tables : TableContents) (x : Result (List ℕ) (List ℕ)) → IsRecurAnswer a tables x → EndsList r before now (IsListEnd x) → EndsList r before now (list_end (ListsOccurrences a) tables)
recur_listed (Ok refused) before now a tables x is (text, (r, lists, e), wrote) = (text, (r, (x, is, lists), e), wrote)
recur_listed (Err f) before now a tables x is (text, status, (r, lists, e), wrote) = (text, status, (r, (x, is, lists), e), wrote)

module _ (r : Result Bool Failed) (before now : Option (List ℕ)) (a : RecurAsked) (tables : TableContents) where
  abbrev Every : Result (List ℕ) (List ℕ) → Bool → Type 0
  Every x none = MatchBool none (x ≡ Err (codes "Every")) ((rule : Rule) × IsRule a.header.unit a.header.every a.header.missing rule × (x ≡ answer_by_rule a tables rule))

  in_window : (x : Result (List ℕ) (List ℕ)) → is_window a.header.first a.header.last ≡ true → Every x (a.header.every == 0) → IsRecurAnswer a tables x
  in_window x e h = subst (λ (b : Bool). MatchBool b (Every x (a.header.every == 0)) (x ≡ Err (codes "InvalidWindow"))) (sym e) h

  pub recur_window_refused : is_window a.header.first a.header.last ≡ false → EndsList r before now (IsListEnd (Err (codes "InvalidWindow"))) → EndsList r before now (list_end (ListsOccurrences a) tables)
  recur_window_refused e h =
      let x : Result (List ℕ) (List ℕ) = Err (codes "InvalidWindow") in
      recur_listed r before now a tables x (subst (λ (b : Bool). MatchBool b (Every x (a.header.every == 0)) (x ≡ Err (codes "InvalidWindow"))) (sym e) refl) h

  pub every_refused : is_window a.header.first a.header.last ≡ true → a.header.every ≡ 0 → EndsList r before now (IsListEnd (Err (codes "Every"))) → EndsList r before now (list_end (ListsOccurrences a) tables)
  every_refused window none h =
      let x : Result (List ℕ) (List ℕ) = Err (codes "Every") in
      recur_listed r before now a tables x (in_window x window (subst (Every x) (sym (ap (λ (n : ℕ). n == 0) none)) refl)) h

  some_every : (n : ℕ) → 0 < n → (n == 0) ≡ false
  some_every n h = ⊎_elim (λ (e : ((n == 0) ≡ true) × (n ≡ 0)). absurd (omega (arith, h, e.1))) (λ (e : ((n == 0) ≡ false) × (n ≢ 0)). e.0) (eqb_tells n 0)

  pub rule_listed : (rule : Rule) → is_window a.header.first a.header.last ≡ true → IsRule a.header.unit a.header.every a.header.missing rule → EndsList r before now (IsListEnd (answer_by_rule a tables rule)) → EndsList r before now (list_end (ListsOccurrences a) tables)
  rule_listed rule window is h =
      let x = answer_by_rule a tables rule in
      let some : 0 < a.header.every = subst (λ (n : ℕ). 0 < n) is.every rule.some in
      recur_listed r before now a tables x (in_window x window (subst (Every x) (sym (some_every a.header.every some)) (rule, is, refl))) h
