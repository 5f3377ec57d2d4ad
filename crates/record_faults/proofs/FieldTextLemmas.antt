-- The texts that may stand in the first invalid field are those with which some valid record goes on.
use Rattle.std.proofs.Common.{◌≡◌, ℕ, zero, suc, ◌+◌, ◌-◌, ◌<◌, true, ◌↔◌, IsTrue, List, [], ◌∷◌, ◌++◌, length, take, drop, Some, Result, Ok, Err, option_map, refl, ◌∙◌, ap, subst, arith}
use Rattle.std.proofs.lemmas.List.{drop_more}
use Rattle.std.specs.Result.{result_err}
use Rattle.cal_holidays.specs.Records.{by_places, record_read}
use Rattle.cal_holidays.specs.Rules.{NamedRule}
use Rattle.record_faults.specs.FieldTexts.{TextsThatMayStand, may_stand}
use Rattle.record_faults.specs.FirstFields.{IsValid}
use Rattle.record_faults.specs.RecordFaults.{fault_at}
use Rattle.record_faults.specs.declared.faults.RecordFault.{RecordFault}
use Rattle.record_faults.proofs.FirstFieldLemmas.{begun, is_read, is_there, valid_stands}
use Rattle.record_faults.proofs.ReadingLemmas.{goes_on, listed, none_some, some_is, stands_at}
use Rattle.record_faults.proofs.RecordOrderLemmas.{fields_read, fields_reads}

-- some valid record has the text in place of the first invalid field
stands_valid : (fields : List (List ℕ)) (k : ℕ) → k < length fields → fields_read (by_places fields) ≡ Err (suc k)
    → (text : List ℕ) → stands_at fields k text ≡ true → (more : List (List ℕ)) × IsValid (take k fields ++ text ∷ more)
stands_valid fields k lt e text stands =
    let small : k < 10 = (fields_reads fields).to (by_places fields) k e in
    let (g, (agree, there), (named, ok)) = goes_on fields_read (fields_reads fields) tt k small e text stands in
    let rest : drop k (listed g) ≡ text ∷ drop (k + 1) (listed g) =
    drop_more (listed g) k [] small ∙ ap (λ t. t ∷ drop (k + 1) (listed g)) there in
    let valid = begun fields k g named small lt agree ok in
    (drop (k + 1) (listed g), (named, subst (λ rest. record_read (take k fields ++ rest) ≡ Ok named) rest valid))

pub texts_stand : TextsThatMayStand
unfolding stands_at
texts_stand fields fault = by (record_read fields) refl
  where
    Stand : RecordFault → Type 0
    Stand fault =
        0 < fault.field → (text : List ℕ) → IsTrue (may_stand fault.expected fields text)
        ↔ ((more : List (List ℕ)) × IsValid (take (fault.field - 1) fields ++ text ∷ more))

    at_number : (n : ℕ) → record_read fields ≡ Err n → Stand (fault_at fields n)
    at_number zero e lt text = absurd (omega (arith, lt))
    at_number (suc k) e lt text =
        let (is, read) = is_read fields k e in
        let there : k < length fields = is_there fields k is read in
        let same : suc k - 1 ≡ k = omega (arith) in
        let back = valid_stands fields k there read text in
        rw same (stands_valid fields k there read text, λ (more, valid). back more valid)

    by : (r : Result NamedRule ℕ) → record_read fields ≡ r
        → option_map (fault_at fields) (result_err r) ≡ Some fault → Stand fault
    by (Ok named) e none = none_some fault none
    by (Err n) e some = subst Stand (some_is some) (at_number n e)
