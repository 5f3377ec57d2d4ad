-- The number of an invalid field is that of the first one.
use Rattle.std.proofs.Common.{◌≡◌, ℕ, zero, suc, ◌+◌, ◌-◌, ◌<◌, ◌≤◌, ◌&&◌, nat_le, ◌⊎◌, inl, inr, Bool, true, false, cond, List, [], ◌∷◌, ◌++◌, get_or, length, take, drop, Option, Some, None, Result, Ok, Err, MatchOption, option_map, refl, ◌∙◌, sym, ap, arith}
use Rattle.std.proofs.lemmas.Bool.{and_parts, cases_lt, false≢true, leb-true}
use Rattle.std.proofs.lemmas.List.{drop_more, get_or_append_left, get_or-append_right, get_or-drop, get_or_past, get_or-take, length-append, length-drop, length-take-le, take-append-drop}
use Rattle.std.specs.Result.{result_err}
use Rattle.record_faults.specs.RecordFaults.{fault_at}
use Rattle.record_faults.specs.declared.faults.RecordFault.{RecordFault}
use Rattle.record_faults.specs.FirstFields.{FieldsAreFirst, IsFault, IsFirstInvalid, IsValid}
use Rattle.cal_holidays.specs.Records.{TenFields, by_places, field, record_read}
use Rattle.cal_holidays.specs.Rules.{NamedRule}
use Rattle.record_faults.proofs.ReadingLemmas.{Agree, at, at_places, listed, never, number_of, stands_at}
use Rattle.record_faults.proofs.RecordOrderLemmas.{fields_read, fields_reads}

-- six to ten
abbrev is_count : ℕ → Bool
is_count n = nat_le 6 n && nat_le n 10

-- what a record says, by whether it has six to ten fields
read_by : (fields : List (List ℕ)) (t : Bool) → is_count (length fields) ≡ t
    → record_read fields ≡ field 0 (cond t (Some (by_places fields)) None) fields_read
read_by fields t e = ap (λ t. field 0 (cond t (Some (by_places fields)) None) fields_read) e

-- no record of another number of fields is valid
other_count : (fields : List (List ℕ)) → record_read fields ≡ Err 0 → (others : List (List ℕ))
    → length others ≡ length fields → IsValid others → ⊥
other_count fields e others same (named, ok) = by (is_count (length fields)) refl
  where
    by : (t : Bool) → is_count (length fields) ≡ t → ⊥
    by true is = (fields_reads fields).some (by_places fields) (sym (read_by fields true is) ∙ e)
    by false is = never 0 named (sym (read_by others false (ap is_count same ∙ is)) ∙ ok)

-- a record has six to ten fields, if not their number is wrong
counted : (fields : List (List ℕ)) (r : Result NamedRule ℕ) → (r ≡ Err 0 → ⊥) → record_read fields ≡ r
    → (is_count (length fields) ≡ true) × (fields_read (by_places fields) ≡ r)
counted fields r other e = by (is_count (length fields)) refl
  where
    by : (t : Bool) → is_count (length fields) ≡ t
        → (is_count (length fields) ≡ true) × (fields_read (by_places fields) ≡ r)
    by true is = (is, sym (read_by fields true is) ∙ e)
    by false is = absurd (other (sym e ∙ read_by fields false is))

-- a record with an invalid field has six to ten, and that field is the first invalid one of them
pub is_read : (fields : List (List ℕ)) (k : ℕ) → record_read fields ≡ Err (suc k)
    → (is_count (length fields) ≡ true) × (fields_read (by_places fields) ≡ Err (suc k))
is_read fields k = counted fields bad other
  where
    bad : Result NamedRule ℕ
    bad = Err (suc k)

    other : bad ≡ Err 0 → ⊥
    other e =
        let wrong : suc k ≡ 0 = ap number_of e in
        omega (arith, wrong)

-- the first invalid field isn't one that is left out
pub is_there : (fields : List (List ℕ)) (k : ℕ) → is_count (length fields) ≡ true
    → fields_read (by_places fields) ≡ Err (suc k) → k < length fields
is_there fields k is e = by (cases_lt k (length fields))
  where
    by : (k < length fields) ⊎ (length fields ≤ k) → k < length fields
    by (inl lower) = lower
    by (inr past) =
        let two = and_parts (nat_le 6 (length fields)) (nat_le (length fields) 10) is in
        let least : 6 ≤ length fields = leb-true 6 (length fields) two.0 in
        let small : k < 10 = (fields_reads fields).to (by_places fields) k e in
        let empty : at (by_places fields) k ≡ [] = at_places fields k small ∙ get_or_past fields k [] past in
        absurd ((fields_reads fields).filled (by_places fields) k e (omega (arith, past, least)) empty)

-- a record that begins with the fields before a place of another, and has a text there
has_text : (fields : List (List ℕ)) (k : ℕ) (text : List ℕ) (more : List (List ℕ)) → k < 10 → k < length fields
    → Agree k (by_places fields) (by_places (take k fields ++ text ∷ more))
    × (at (by_places (take k fields ++ text ∷ more)) k ≡ text)
has_text fields k text more small lt = (agree, there)
  where
    whole : List (List ℕ)
    whole = take k fields ++ text ∷ more

    first : length (take k fields) ≡ k
    first = length-take-le k fields (omega (arith, lt))

    agree : Agree k (by_places fields) (by_places whole)
    agree i below =
        at_places fields i (omega (arith, small, below))
        ∙ sym (at_places whole i (omega (arith, small, below))
        ∙ (get_or_append_left (take k fields) (text ∷ more) [] i (omega (arith, first, below))
        ∙ get_or-take k fields i [] below))

    there : at (by_places whole) k ≡ text
    there =
        let none : k - k ≡ 0 = omega (arith) in
        at_places whole k small
        ∙ (get_or-append_right (take k fields) (text ∷ more) k k [] first (omega (arith))
        ∙ ap (λ j. get_or (text ∷ more) j []) none)

-- what stands in a valid record in place of the first invalid field is what may stand there
pub valid_stands : (fields : List (List ℕ)) (k : ℕ) → k < length fields → fields_read (by_places fields) ≡ Err (suc k)
    → (text : List ℕ) (more : List (List ℕ)) → IsValid (take k fields ++ text ∷ more) → stands_at fields k text ≡ true
valid_stands fields k lt e text more (named, ok) = by (stands_at fields k text) refl
  where
    whole : List (List ℕ)
    whole = take k fields ++ text ∷ more

    by : (t : Bool) → stands_at fields k text ≡ t → stands_at fields k text ≡ true
    by true is = is
    by false is =
        let reads = fields_reads fields in
        let (agree, there) = has_text fields k text more (reads.to (by_places fields) k e) lt in
        let wrong = (reads.tested tt (by_places whole) k e agree).0 (ap (stands_at fields k) there ∙ is) in
        let valid = (counted whole (Ok named) (λ w. never 0 named (sym w)) ok).1 in
        never (suc k) named (sym wrong ∙ valid)

-- the first fields of a record, and those of another behind them
pub begun : (fields : List (List ℕ)) (k : ℕ) (g : TenFields) (named : NamedRule) → k < 10 → k < length fields
    → Agree k (by_places fields) g → fields_read g ≡ Ok named → record_read (take k fields ++ drop k (listed g)) ≡ Ok named
begun fields k g named small lt all ok =
    read_by whole true (ap is_count size) ∙ (fields_reads fields).valid g (by_places whole) named ok agree
  where
    whole : List (List ℕ)
    whole = take k fields ++ drop k (listed g)

    first : length (take k fields) ≡ k
    first = length-take-le k fields (omega (arith, lt))

    size : length whole ≡ 10
    size =
        let behind : length (drop k (listed g)) ≡ 10 - k = length-drop k (listed g) in
        omega (arith, small, first, behind, length-append (take k fields) (drop k (listed g)))

    before : (i : ℕ) → i < k → get_or whole i [] ≡ at g i
    before i below =
        get_or_append_left (take k fields) (drop k (listed g)) [] i (omega (arith, first, below))
        ∙ (get_or-take k fields i [] below
        ∙ (sym (at_places fields i (omega (arith, small, below))) ∙ all i below))

    past : (i : ℕ) → k ≤ i → get_or whole i [] ≡ at g i
    past i up =
        get_or-append_right (take k fields) (drop k (listed g)) k i [] first up
        ∙ (get_or-drop k (listed g) (i - k) []
        ∙ ap (λ j. get_or (listed g) j []) (omega (arith, up)))

    agree : Agree 10 g (by_places whole)
    agree i below = sym (at_places whole i below ∙ by (cases_lt i k))
      where
        by : (i < k) ⊎ (k ≤ i) → get_or whole i [] ≡ at g i
        by (inl lower) = before i lower
        by (inr up) = past i up

first_invalid : (fields : List (List ℕ)) (k : ℕ) → is_count (length fields) ≡ true
    → fields_read (by_places fields) ≡ Err (suc k) → IsFirstInvalid fields (suc k)
first_invalid fields k is e = record {
  before = take k fields;
  bad = get_or fields k [];
  behind = drop (k + 1) fields;
  parts = sym (take-append-drop k fields) ∙ ap (λ rest. take k fields ++ rest) (drop_more fields k [] lt);
  counted = omega (arith, first);
  begins = begins;
  wrong = λ more valid. false≢true (sym wrong ∙ valid_stands fields k lt e (get_or fields k []) more valid);
}
  where
    small : k < 10
    small = (fields_reads fields).to (by_places fields) k e

    lt : k < length fields
    lt = is_there fields k is e

    wrong : stands_at fields k (get_or fields k []) ≡ false
    wrong =
        ap (stands_at fields k) (sym (at_places fields k small))
        ∙ ((fields_reads fields).tested tt (by_places fields) k e (λ i below. refl)).1 e

    first : length (take k fields) ≡ k
    first = length-take-le k fields (omega (arith, lt))

    begins : (more : List (List ℕ)) × IsValid (take k fields ++ more)
    begins =
        let (g, all, (named, ok)) = (fields_reads fields).mended (by_places fields) k e in
        (drop k (listed g), (named, begun fields k g named small lt all ok))

pub faults_first : FieldsAreFirst
faults_first fields = by (record_read fields) refl
  where
    Fault : Option RecordFault → Type 0
    Fault fault = MatchOption fault (IsValid fields) (λ fault. IsFault fields fault.field)

    by : (r : Result NamedRule ℕ) → record_read fields ≡ r → Fault (option_map (fault_at fields) (result_err r))
    by (Ok named) e = (named, e)
    by (Err zero) e = other_count fields e
    by (Err (suc k)) e =
        let (is, read) = is_read fields k e in
        first_invalid fields k is read
