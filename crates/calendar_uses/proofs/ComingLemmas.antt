-- What is collected of an iterator, which rule was made, and that a day of Adar I may be asked for.
use Rattle.std.proofs.Common.{◌≡◌, ◌<◌, ◌≤◌, [], ◌∷◌, ℕ, List, Option, Some, None, Result, Ok, Err, true, ◌&&◌, ap, ◌∙◌, subst, length, arith}
use Rattle.std.specs.Prelude.{IfOk, MatchOption, nat_le, vec_items}
use Rattle.std.specs.declared.vec.Vec.{Vec}
use Rattle.std.specs.Iterator.{YieldsFirst}
use Rattle.std.proofs.Props.{props}
use Rattle.std.proofs.lemmas.Bool.Decides.{nat_tests}
use Rattle.std.proofs.lemmas.Iterator.{YieldsList, IsCollectResult, items_from_collect}
use Rattle.std.proofs.lemmas.Iterator.Consumers.{YieldsList-from_shown}
use Rattle.icu_calendar.specs.Asking.{anniversary_fault}
use Rattle.icu_calendar.specs.HebrewList.{hebrew_list}
use Rattle.icu_calendar.specs.Month.{MonthParts, leap_month}
use Rattle.icu_calendar.specs.declared.AnniversaryError.{AnniversaryError}
use Rattle.icu_calendar.specs.declared.DateDurationUnit.{DateDurationUnit}
use Rattle.icu_calendar.specs.declared.Missing.{Missing}
use Rattle.icu_calendar.specs.declared.Rule.{Rule}

-- the list that an iterator gives whose calls give the first of what is left, and say more
pub gives_left : {S A : Type 0} (left : S → List A) (More : S → Option A → S → Type 0) {s : S} (xs : List A)
    → left s ≡ xs → YieldsList (λ i r t. YieldsFirst left i r t × More i r t) (λ x. x) s xs
gives_left {S} {A} left More {s} xs e = subst (YieldsList steps (λ x. x) s) e (YieldsList-from_shown steps (λ x. x) left ends gives s) where
  steps : S → Option A → S → Type 0
  steps i r t = YieldsFirst left i r t × More i r t

  ends : (i t : S) → steps i None t → length (left i) ≡ 0
  ends i t step = ap length step.0.0

  gives : (i : S) (x : A) (t : S) → steps i (Some x) t → left i ≡ x ∷ left t
  gives i x t step = step.0

-- the same calls, by what they say of an end and of an item, which antt finds by itself where it compares a run
abbrev Calls : {S A : Type 0} → (S → List A) → (S → S → Type 0) → (S → A → S → Type 0) → S → Option A → S → Type 0
Calls left AtEnd AtItem i o t = MatchOption o (((left i ≡ []) × (left t ≡ [])) × AtEnd i t) (λ x. (left i ≡ x ∷ left t) × AtItem i x t)

-- what holds of a vector of the list that is left holds of what is collected of it
pub collected : {S A Z E : Type 0} (left : S → List A) (AtEnd : S → S → Type 0) (AtItem : S → A → S → Type 0) (s : S) {xs : List A} {Q : Vec A Z → Type 0} (r : Result (Vec A Z) E)
    → IsCollectResult (Calls left AtEnd AtItem) s r → left s ≡ xs → ((v : Vec A Z) → vec_items v ≡ xs → Q v) → IfOk r Q
collected {S} {A} {Z} {E} left AtEnd AtItem s {xs} {Q} r ran e holds =
    of_items r (items_from_collect r ran (YieldsList-from_shown (Calls left AtEnd AtItem) (λ x. x) left (λ i t step. ap length step.0.0) (λ i x t step. step.0) s)) where
      of_items : (r : Result (Vec A Z) E) → IfOk r (λ v. vec_items v ≡ left s) → IfOk r Q
      of_items (Ok v) given = holds v (given ∙ e)
      of_items (Err _) given = given

-- a rule is made of its parts
pub rule_made : (rule : Rule) (unit : DateDurationUnit) (every : ℕ) (missing : Missing) (some : 0 < every)
    → rule.unit ≡ unit → rule.every ≡ every → rule.missing ≡ missing
    → rule ≡ record { unit = unit; every = every; missing = missing; some = some }
rule_made rule unit every missing some a b d =
    subst (λ (u : DateDurationUnit). with_parts u every missing some) a
    (subst (λ (m : Missing). with_parts rule.unit every m some) d
    (subst (λ (n : ℕ). (p : 0 < n) → with_parts rule.unit n rule.missing p) b here some)) where
      with_parts : (u : DateDurationUnit) (n : ℕ) (m : Missing) → 0 < n → Type 0
      with_parts u n m p = rule ≡ record { unit = u; every = n; missing = m; some = p }

      one : IsProp (0 < rule.every)
      one = hlevel props

      here : (p : 0 < rule.every) → with_parts rule.unit rule.every rule.missing p
      here p = ap (λ (q : 0 < rule.every). let r : Rule = record { unit = rule.unit; every = rule.every; missing = rule.missing; some = q } in r) (one rule.some p)

accepted : (day : ℕ) → 1 ≤ day → day ≤ 31 → (nat_le 1 day && nat_le day 31) ≡ true
accepted day low high = grind (arith, nat_tests)

-- each day from 1 to 31 of Adar I may be asked for
pub no_fault : (e : AnniversaryError) (m : MonthParts) (day : ℕ) → m ≡ leap_month 5 → 1 ≤ day → day ≤ 31 → Some e ≡ anniversary_fault hebrew_list m day → ⊥
unfolding hebrew_list
no_fault e m day same low high fault =
    let test = accepted day low high in
    let none : Some e ≡ None = rw (same, test) at fault in cc
