-- A list is read value by value into a set.
use Rattle.std.proofs.Common.{◌≡◌, ◌∙◌, ℕ, Bool, true, false, ◌||◌, List, [], ◌∷◌, ◌++◌, Result, Ok, Err, Some, refl, sym, ap, subst, append_assoc}
use Rattle.std.specs.List.{list_any}
use Rattle.std.specs.Result.{result_unwrap_or}
use Rattle.cal_rule.specs.Lists.{HasValues, IsSetRead, all_read, first_and, in_front}
use Rattle.cal_rule.specs.Faults.{error_in, error_of}
use Rattle.cal_rule.specs.declared.rule_part.RulePart.{RulePart}
use Rattle.cal_rule.specs.declared.value_fault.ValueFault.{ValueFault}

-- some values before those that are read
abbrev pub behind : {V : Type 0} → List V → Result (List V) ValueFault → Result (List V) ValueFault
behind earlier (Ok xs) = Ok (earlier ++ xs)
behind earlier (Err e) = Err e

behind-more : {V : Type 0} (earlier : List V) (x : V) (r : Result (List V) ValueFault) →
    behind earlier (in_front x r) ≡ behind (earlier ++ x ∷ []) r
behind-more earlier x (Ok xs) = ap Ok (sym (append_assoc earlier (x ∷ []) xs))
behind-more earlier x (Err e) = refl

behind-none : {V : Type 0} (r : Result (List V) ValueFault) → r ≡ behind [] r
behind-none (Ok xs) = refl
behind-none (Err e) = refl

-- the values that are read so far
pub record IsReadingList {S V : Type 0} (has : S → V → Bool) (same : V → V → Bool)
    (read : List ℕ → Result V ValueFault) (set : S) (all left : List (List ℕ)) : Type 0 where
  pub earlier : List V
  pub values : all_read read all ≡ behind earlier (all_read read left)
  pub holds : HasValues has same set earlier

or_middle : (a b c : Bool) → (a || (b || c)) ≡ (b || (a || c))
or_middle true true c = refl
or_middle true false c = refl
or_middle false b c = refl

any-more : {V : Type 0} (test : V → Bool) (xs : List V) (x : V) → (test x || list_any test xs) ≡ list_any test (xs ++ x ∷ [])
any-more test [] x = refl
any-more test (y ∷ xs) x = or_middle (test x) (test y) (list_any test xs) ∙ ap (λ b. test y || b) (any-more test xs x)

pub reading-begins : {S V : Type 0} (has : S → V → Bool) (same : V → V → Bool) (read : List ℕ → Result V ValueFault)
    (set : S) (all : List (List ℕ)) → ((v : V) → has set v ≡ false) → IsReadingList has same read set all all
reading-begins has same read set all none =
    record { earlier = []; values = behind-none (all_read read all); holds = none }

pub reading-goes_on : {S V : Type 0} (has : S → V → Bool) (same : V → V → Bool) (read : List ℕ → Result V ValueFault)
    (set next : S) (all left others : List (List ℕ)) (item : List ℕ) (x : V) → left ≡ item ∷ others →
    IsReadingList has same read set all left → Ok x ≡ read item →
    ((v : V) → has next v ≡ (same v x || has set v)) → IsReadingList has same read next all others
reading-goes_on has same read set next all left others item x cut r value more =
    record {
      earlier = r.earlier ++ x ∷ [];
      values = r.values ∙ ap (λ items. behind r.earlier (all_read read items)) cut
          ∙ ap (λ v. behind r.earlier (first_and v (all_read read others))) (sym value)
          ∙ behind-more r.earlier x (all_read read others);
      holds = λ v. more v ∙ ap (λ b. same v x || b) (r.holds v) ∙ any-more (same v) r.earlier x;
    }

-- the first fault ends the reading
pub reading-fails : {S V : Type 0} (has : S → V → Bool) (same : V → V → Bool) (read : List ℕ → Result V ValueFault)
    (set : S) (all left others : List (List ℕ)) (item : List ℕ) (e : ValueFault) → left ≡ item ∷ others →
    IsReadingList has same read set all left → Err e ≡ read item → IsSetRead has same (Err e) (all_read read all)
reading-fails has same read set all left others item e cut r fault =
    let values : all_read read all ≡ Err e =
    r.values ∙ ap (λ items. behind r.earlier (all_read read items)) cut
    ∙ ap (λ v. behind r.earlier (first_and v (all_read read others))) (sym fault) in
    subst (λ values. IsSetRead has same (Err e) values) (sym values) refl

append_none : {V : Type 0} (xs : List V) → xs ++ [] ≡ xs
append_none [] = refl
append_none (x ∷ xs) = ap (λ ys. x ∷ ys) (append_none xs)

-- and the last value
pub reading-ends : {S V : Type 0} (has : S → V → Bool) (same : V → V → Bool) (read : List ℕ → Result V ValueFault)
    (set : S) (all left : List (List ℕ)) → left ≡ [] →
    IsReadingList has same read set all left → IsSetRead has same (Ok set) (all_read read all)
reading-ends has same read set all left end r =
    let values : all_read read all ≡ Ok r.earlier =
    r.values ∙ ap (λ items. behind r.earlier (all_read read items)) end ∙ ap Ok (append_none r.earlier) in
    subst (λ values. IsSetRead has same (Ok set) values) (sym values) r.holds

-- a set's fault is that of its list
pub fault-of_set : {S V : Type 0} (has : S → V → Bool) (same : V → V → Bool) (part : RulePart) (r : Result S ValueFault)
    (values : Result (List V) ValueFault) → IsSetRead has same r values → error_in part r ≡ error_in part values
fault-of_set has same part (Ok set) (Ok values) h = refl
fault-of_set has same part (Err e) (Err f) h = ap (λ fault. Some (error_of part fault)) h
fault-of_set has same part (Ok set) (Err f) h = absurd h
fault-of_set has same part (Err e) (Ok values) h = absurd h

-- a set that was read, or an empty one, has the values of the list, or none
pub values-of_set : {S V : Type 0} (has : S → V → Bool) (same : V → V → Bool) (none : S) (r : Result S ValueFault)
    (values : Result (List V) ValueFault) → ((v : V) → has none v ≡ false) → IsSetRead has same r values →
    HasValues has same (result_unwrap_or r none) (result_unwrap_or values [])
values-of_set has same none (Ok set) (Ok values) empty h = h
values-of_set has same none (Err e) (Err f) empty h = empty
values-of_set has same none (Ok set) (Err f) empty h = absurd h
values-of_set has same none (Err e) (Ok values) empty h = absurd h
