use Rattle.std.proofs.Common.{◌≡◌, ℕ, zero, suc, ◌+◌, ◌<◌, ◌≤◌, ◌^◌, Bool, true, false, not, cond, ltb, nat_lt, List, [], ◌∷◌, ◌++◌, length, take, drop, get_or, position, Option, Some, None, Result, Ok, Err, if◌then◌else◌, refl, sym, ap, ◌∙◌, subst, arith, append_assoc}
use Rattle.std.specs.Option.{is_some, option_map, option_or}
use Rattle.std.specs.List.{find, list_all, position_or_len}
use Rattle.std.specs.Result.{OkIff, result_ok}
use Rattle.std.specs.Str.{IsUtf8}
use Rattle.std.specs.Str.Parse.{ParsesUnsigned, digits_value}
use Rattle.std.specs.Char.{is_ascii_digit}
use Rattle.std.proofs.lemmas.Bool.{and_parts}
use Rattle.std.proofs.lemmas.Bool.Decides.{nat_tests}
use Rattle.std.proofs.lemmas.Grind.{common_steps}
use Rattle.std.proofs.lemmas.Fmt.{IsAscii-from_digits}
use Rattle.std.proofs.lemmas.List.Folds.{find-append, list_all_more}
use Rattle.std.proofs.lemmas.List.Quantifiers.{position-Some}
use Rattle.std.proofs.lemmas.List.Sums.{fails_before_first}
use Rattle.std.proofs.lemmas.List.{take-append-drop, drop_all}
use Rattle.std.proofs.Math.Seq.{drop-cons, take-length}
use Rattle.std.proofs.lemmas.Str.{IsUtf8-from_ascii}
use Rattle.std.proofs.lemmas.Str.Parse.{IsNumeralModel, numerals_by_value, parse_digits, tells_all_ascii_digits}
use borrow.Author.Tests.{le-ltb, ltb-false}
use Rattle.cal_types.specs.DurationText.{DurationPart, parts_of, unit_letter, unit_at, is_end, number_of, amounts_of, amount, amount_fault, amount_put, digits_fault, first_fault, unless_fault}
use Rattle.cal_types.specs.declared.duration.DateDurationUnit.{DateDurationUnit}
use Rattle.cal_types.specs.declared.duration.DateDurationUnit.TheVariants.{Years, Months, Weeks, Days}
use Rattle.cal_types.specs.declared.duration_text.Amounts.{Amounts}
use Rattle.cal_errors.specs.declared.errors.DateDurationParseError.{DateDurationParseError}

abbrev part : List ℕ → Option ℕ → DurationPart
part digits end = record { digits = digits; end = end }

abbrev pub AreDigits : List ℕ → Type 0
AreDigits ds = list_all is_ascii_digit ds ≡ true

-- digits that a byte ends are a part
pub parts_of-ended : (ds : List ℕ) (end : ℕ) (text : List ℕ) → AreDigits ds → is_ascii_digit end ≡ false →
    parts_of (ds ++ end ∷ text) ≡ part ds (Some end) ∷ parts_of text
parts_of-ended [] end text digits other = rw other refl
parts_of-ended (d ∷ ds) end text digits other =
    let each = and_parts (is_ascii_digit d) (list_all is_ascii_digit ds) digits in
    rw (each.0, parts_of-ended ds end text each.1 other) refl

-- digits alone are a part
pub parts_of-digits : (d : ℕ) (ds : List ℕ) → AreDigits (d ∷ ds) → parts_of (d ∷ ds) ≡ part (d ∷ ds) None ∷ []
parts_of-digits d [] digits = rw (and_parts (is_ascii_digit d) true digits).0 refl
parts_of-digits d (e ∷ ds) digits =
    let each = and_parts (is_ascii_digit d) (list_all is_ascii_digit (e ∷ ds)) digits in
    rw (each.0, parts_of-digits e ds each.1) refl

mapped : {A B : Type 0} (f : A → B) (test : A → Bool) (found : Option A) (x : A) →
    option_map f (option_or found (find test (x ∷ [])))
    ≡ option_or (option_map f found) (if test x then Some (f x) else None)
mapped f test (Some y) x = refl
mapped f test None x = grind (arith, common_steps)

-- whether a unit's letter ends a part
abbrev ends_with : DateDurationUnit → DurationPart → Bool
ends_with unit p = is_end (unit_letter unit) p.end

-- the number of a unit when one more part is read
number_of-pushed : (unit : DateDurationUnit) (earlier : List DurationPart) (p : DurationPart) →
    number_of unit (earlier ++ p ∷ [])
    ≡ option_or (number_of unit earlier) (if ends_with unit p then Some (digits_value 10 p.digits) else None)
number_of-pushed unit earlier p =
    let test = ends_with unit in
    let value = λ (q : DurationPart). digits_value 10 q.digits in
    ap (option_map value) (find-append test earlier (p ∷ [])) ∙ mapped value test (find test earlier) p

or_none : {A : Type 0} (x : Option A) → option_or x None ≡ x
or_none None = refl
or_none (Some x) = refl

kept : (unit : DateDurationUnit) (earlier : List DurationPart) (p : DurationPart) → ends_with unit p ≡ false →
    number_of unit (earlier ++ p ∷ []) ≡ number_of unit earlier
kept unit earlier p other = number_of-pushed unit earlier p ∙ rw other (or_none (number_of unit earlier))

added : (unit : DateDurationUnit) (earlier : List DurationPart) (p : DurationPart) →
    ends_with unit p ≡ true → number_of unit earlier ≡ None →
    number_of unit (earlier ++ p ∷ []) ≡ Some (digits_value 10 p.digits)
added unit earlier p same none = number_of-pushed unit earlier p ∙ rw (same, none) refl

-- a unit that didn't come before adds its number
put : (unit : DateDurationUnit) (earlier : List DurationPart) (digits : List ℕ) →
    amount unit (amounts_of earlier) ≡ None →
    amount_put (amounts_of earlier) (digits_value 10 digits) (Some unit)
    ≡ amounts_of (earlier ++ part digits (Some (unit_letter unit)) ∷ [])
put Years earlier digits none =
    let p = part digits (Some 89) in
    rw (
      added Years earlier p refl none,
      kept Months earlier p refl,
      kept Weeks earlier p refl,
      kept Days earlier p refl,
    ) refl
put Months earlier digits none =
    let p = part digits (Some 77) in
    rw (
      kept Years earlier p refl,
      added Months earlier p refl none,
      kept Weeks earlier p refl,
      kept Days earlier p refl,
    ) refl
put Weeks earlier digits none =
    let p = part digits (Some 87) in
    rw (
      kept Years earlier p refl,
      kept Months earlier p refl,
      added Weeks earlier p refl none,
      kept Days earlier p refl,
    ) refl
put Days earlier digits none =
    let p = part digits (Some 68) in
    rw (
      kept Years earlier p refl,
      kept Months earlier p refl,
      kept Weeks earlier p refl,
      added Days earlier p refl none,
    ) refl

lettered : (end : Option ℕ) (unit : DateDurationUnit) → unit_at end ≡ Some unit → end ≡ Some (unit_letter unit)
lettered None unit named = cc
lettered (Some byte) Years named = grind (arith, nat_tests, common_steps)
lettered (Some byte) Months named = grind (arith, nat_tests, common_steps)
lettered (Some byte) Weeks named = grind (arith, nat_tests, common_steps)
lettered (Some byte) Days named = grind (arith, nat_tests, common_steps)

if_none : {A : Type 0} (b : Bool) (x : A) (y : Option A) → (if b then Some x else y) ≡ None → (b ≡ false) × (y ≡ None)
if_none true x y h = cc
if_none false x y h = (refl, h)

not_some : {A : Type 0} (x : Option A) → is_some x ≡ false → x ≡ None
not_some None h = refl
not_some (Some x) h = cc

put_unit : (found : Option DateDurationUnit) (earlier : List DurationPart) (digits : List ℕ) (end : Option ℕ) →
    unit_at end ≡ found →
    amount_fault (amounts_of earlier) (digits_value 10 digits) found ≡ None →
    amount_put (amounts_of earlier) (digits_value 10 digits) found ≡ amounts_of (earlier ++ part digits end ∷ [])
put_unit None earlier digits end named good = cc
put_unit (Some unit) earlier digits end named good =
    let came = amount unit (amounts_of earlier) in
    let new = not_some came (if_none (is_some came) _ _ good).0 in
    put unit earlier digits new ∙ ap (λ e. amounts_of (earlier ++ part digits e ∷ [])) (sym (lettered end unit named))

-- a part in which nothing is wrong adds its number
put_part : (earlier : List DurationPart) (digits : List ℕ) (end : Option ℕ) →
    digits_fault (amounts_of earlier) digits end ≡ None →
    amount_put (amounts_of earlier) (digits_value 10 digits) (unit_at end)
    ≡ amounts_of (earlier ++ part digits end ∷ [])
put_part earlier [] end good = cc
put_part earlier (d ∷ ds) end good =
    put_unit (unit_at end) earlier (d ∷ ds) end refl (if_none _ _ _ good).1

-- parts that are read, where nothing is wrong, and parts that are left
pub record IsReading (amounts : Amounts) (all left : List DurationPart) : Type 0 where
  pub earlier : List DurationPart
  pub numbers : amounts ≡ amounts_of earlier
  pub faults : first_fault [] all ≡ first_fault earlier left
  pub whole : all ≡ earlier ++ left

unless_ok : (fault : Option DateDurationParseError) (value new : Amounts) →
    Ok new ≡ unless_fault fault value → (fault ≡ None) × (new ≡ value)
unless_ok None value new h = (refl, cc)
unless_ok (Some fault) value new h = cc

-- what is answered when one more part is read
abbrev IsAdded : Amounts → List ℕ → Option ℕ → Result Amounts DateDurationParseError → Type 0
IsAdded a digits end r =
    r ≡ unless_fault (digits_fault a digits end) (amount_put a (digits_value 10 digits) (unit_at end))

-- a part in which nothing is wrong is read
pub reading-goes_on : (a new : Amounts) (digits : List ℕ) (end : Option ℕ) (all left : List DurationPart) →
    IsReading a all (part digits end ∷ left) → IsAdded a digits end (Ok new) → IsReading new all left
reading-goes_on a new digits end all left r added =
    let p = part digits end in
    let step = unless_ok (digits_fault a digits end) _ new added in
    let good = subst (λ x. digits_fault x digits end ≡ None) r.numbers step.0 in
    let with_part = λ (x : Amounts). amount_put x (digits_value 10 digits) (unit_at end) in
    record {
      earlier = r.earlier ++ p ∷ [];
      numbers = step.1 ∙ (ap with_part r.numbers ∙ put_part r.earlier digits end good);
      faults = r.faults ∙ ap (λ f. option_or f (first_fault (r.earlier ++ p ∷ []) left)) good;
      whole = r.whole ∙ sym (append_assoc r.earlier (p ∷ []) left);
    }

not_no : (b : Bool) → not b ≡ false → b ≡ true
not_no true h = refl
not_no false h = cc

not_yes : (b : Bool) → not b ≡ true → b ≡ false
not_yes true h = cc
not_yes false h = refl

-- digits one by one are digits
all_before : (xs : List ℕ) (i : ℕ) → i ≤ length xs → ((k : ℕ) → k < i → is_ascii_digit (get_or xs k 0) ≡ true) →
    AreDigits (take i xs)
all_before xs zero within each = refl
all_before xs (suc i) within each =
    let before : AreDigits (take i xs) =
    all_before xs i (omega (arith, within)) (λ k h. each k (omega (arith, h))) in
    let last : is_ascii_digit (get_or xs i 0) ≡ true = each i (omega arith) in
    let more : AreDigits (take (i + 1) xs) =
    list_all_more is_ascii_digit xs i 0 (omega (arith, within)) ∙ rw (before, last) refl in
    let next : suc i ≡ i + 1 = omega arith in
    rw next more

abbrev is_other : ℕ → Bool
is_other byte = not (is_ascii_digit byte)

-- what the first byte that isn't a digit says
pub record EndsFirst (text : List ℕ) (i : ℕ) : Type 0 where
  pub digits : AreDigits (take i text)
  pub within : i < length text
  pub first : parts_of text ≡ part (take i text) (Some (get_or text i 0)) ∷ parts_of (drop (i + 1) text)

pub ends-first : (text : List ℕ) (i : ℕ) → position is_other text ≡ Some i → EndsFirst text i
ends-first text i found =
    let at = position-Some is_other text i 0 found in
    let digits = all_before text i (omega (arith, at.0)) (λ k h. not_no _ (at.2 k h)) in
    let next : suc i ≡ i + 1 = omega arith in
    let behind : drop i text ≡ get_or text i 0 ∷ drop (i + 1) text = rw next at (drop-cons text i 0 at.0) in
    let seam : text ≡ take i text ++ get_or text i 0 ∷ drop (i + 1) text =
    sym (take-append-drop i text) ∙ ap (λ rest. take i text ++ rest) behind in
    let ended = parts_of-ended (take i text) (get_or text i 0) (drop (i + 1) text) digits (not_yes _ at.1) in
    record {
      digits = digits;
      within = at.0;
      first = ap parts_of seam ∙ ended;
    }

cond_none : (b : Bool) (n : ℕ) → ◌≡◌ {A = Option ℕ} (cond b (Some n) None) None → b ≡ false
cond_none true n h = cc
cond_none false n h = refl

-- a text without another byte than digits is one part
pub all-digits : (text : List ℕ) → position is_other text ≡ None → AreDigits text
all-digits text none =
    let first = position_or_len is_other text in
    let past = ltb-false first (length text) (cond_none (ltb first (length text)) first none) in
    let each : (k : ℕ) → k < length text → is_ascii_digit (get_or text k 0) ≡ true =
    λ k h. not_no _ (fails_before_first is_other text k 0 (omega (arith, past, h))) in
    rw (take-length text) at (all_before text (length text) (omega arith) each)

parts_of-whole : (text : List ℕ) → 0 < length text → AreDigits text → parts_of text ≡ part text None ∷ []
parts_of-whole [] some digits = grind (arith, some)
parts_of-whole (d ∷ ds) some digits = parts_of-digits d ds digits

-- a text of digits is one part, and nothing is behind it
pub parts-behind : (text : List ℕ) → 0 < length text → AreDigits text →
    parts_of text ≡ part text None ∷ parts_of (drop (length text) text)
parts-behind text some digits =
    let behind = sym (drop_all (length text) text (omega arith)) in
    parts_of-whole text some digits ∙ ap (λ rest. part text None ∷ parts_of rest) behind

-- digits as std's `parse` reads them
digits_model : IsNumeralModel AreDigits (digits_value 10)
digits_model = numerals_by_value AreDigits tells_all_ascii_digits

pub IsUtf8-digits : (ds : List ℕ) → AreDigits ds → IsUtf8 ds
IsUtf8-digits ds digits = IsUtf8-from_ascii ds (IsAscii-from_digits ds (digits_model.to ds digits))

above : (b : Bool) (n : ℕ) → nat_lt 18446744073709551615 n ≡ b → ¬ (n < 2 ^ 64) →
    nat_lt 18446744073709551615 n ≡ true
above true n e large = e
above false n e large =
    let most = ltb-false 18446744073709551615 n e in absurd (large (omega (arith, most)))

-- the number that digits write, where it is read as one of 64 bits
pub number-read : {E : Type 0} (ds text : List ℕ) (r : Result ℕ E) → text ≡ ds → ParsesUnsigned 64 10 text r →
    AreDigits ds → 0 < length ds →
    result_ok r ≡ (if nat_lt 18446744073709551615 (digits_value 10 ds) then None else Some (digits_value 10 ds))
number-read {E = E} ds text r same read digits some =
    by_result r (parse_digits digits_model 64 ds r (subst (λ t. ParsesUnsigned 64 10 t r) same read) digits)
  where
    by_result : (r : Result ℕ E) → OkIff r ((0 < length ds) × (digits_value 10 ds < 2 ^ 64)) (digits_value 10 ds) →
        result_ok r ≡ (if nat_lt 18446744073709551615 (digits_value 10 ds) then None else Some (digits_value 10 ds))
    by_result (Ok n) h =
        let within = le-ltb 18446744073709551615 (digits_value 10 ds) (omega (arith, h)) in rw within (ap Some h.1)
    by_result (Err e) h =
        let over = above (nat_lt 18446744073709551615 (digits_value 10 ds)) (digits_value 10 ds) refl
        (λ small. h (some, small)) in
        rw over refl
