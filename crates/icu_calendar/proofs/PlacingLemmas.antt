-- Fields that name a year, the place of a month and a day resolve to that date, or say which of them is out of its range.
use Rattle.std.proofs.Common.{◌≡◌, ℕ, ◌≤◌, Bool, true, false, cond, ◌&&◌, nat_le, List, codes, Option, Some, None, IsSome, Result, Ok, Err, refl, sym, ap, ◌∙◌, subst, arith, ℤ, pos}
use Rattle.std.proofs.lemmas.Bool.Decides.{nat_tests}
use Rattle.cal_days.specs.Day.{IsCoveredYear, IsConstructorYear, IsFieldYear, IsValidDay, is_constructor_year, is_field_year, is_valid_day}
use Rattle.cal_days.proofs.Signed.{signed}
use Rattle.cal_days.proofs.RangeLemmas.{is_between-true, true-is_between}
use Rattle.cal_types.specs.Bag.{Bag}
use Rattle.cal_errors.specs.RangeParts.{RangeParts, DateFault, OutOfRange, NoEra}
use Rattle.cal_types.specs.declared.options.Overflow.TheVariants.{Reject}
use Rattle.cal_types.specs.declared.options.MissingFieldsStrategy.TheVariants as missing
use Rattle.cal_errors.specs.declared.errors.DateFromFieldsError.TheVariants.{Overflow as PastTheRange, InvalidEra, InvalidOrdinalMonth, InvalidDay}
use Rattle.cal_types.specs.CalendarList.{CalendarList, Date, date, month_count, month_length, day_number, HasPlace, IsDate}
use Rattle.cal_types.specs.YearNames.{YearNames}
use Rattle.cal_types.specs.Resolving.{Resolved, ByOrdinal, YearAndMonth, year_and_month, after, or_fault, in_year, some_year, valid_date, resolve, resolved_in_month, resolved_in_year}
use Rattle.cal_types.specs.Placing.{out_of_range, year_out_of_range, placed_day, placed_in_year, placed_date, placed_in_era, placed_of_era, date_or_fault}
use Rattle.icu_calendar.specs.PlacedFields.{year_place_day, era_place_day, number_fault, number_or_era, number_or_era_fault}

-- what fields resolve to says the same as a placed date: both are it, or the fault is of the number that is out of its range
abbrev pub SaysSame : ℕ → ℕ → Result Date RangeParts → Resolved Date → Type 0
SaysSame i d placed (Ok t) = placed ≡ Ok t
SaysSame i d placed (Err e) = (f : RangeParts) × (number_fault i d e ≡ Some f) × (placed ≡ Err f)

-- the same, where the year is in an era
abbrev pub SaysSameInEra : ℕ → ℕ → Result Date DateFault → Resolved Date → Type 0
SaysSameInEra i d placed (Ok t) = placed ≡ Ok t
SaysSameInEra i d placed (Err e) = (f : DateFault) × (number_or_era_fault i d e ≡ Some f) × (placed ≡ Err f)

-- then the fault is there, and it is that of the placed date
pub is_named : {F : Type 0} (named : Option F) (placed : Result Date F)
    → (f : F) × (named ≡ Some f) × (placed ≡ Err f) → IsSome named
is_named None placed (f, e, h) = cc
is_named (Some f) placed h = refl

pub named_fault : {F : Type 0} (named : Option F) (placed : Result Date F) (g : F)
    → (f : F) × (named ≡ Some f) × (placed ≡ Err f) → named ≡ Some g → Err g ≡ placed
named_fault named placed g (f, e, h) k = let same : Some f ≡ Some g = sym e ∙ k in let faults : f ≡ g = cc in sym (h ∙ ap Err faults)

-- a year that constructors don't take
pub year_refused : (c : CalendarList) (y : ℤ) (i d : ℕ) → is_constructor_year y ≡ false → placed_date c y i d ≡ Err (year_out_of_range y)
unfolding placed_date
year_refused c y i d e = rw e refl

pub era_year_refused : (c : CalendarList) (names : YearNames) (era : List ℕ) (n : ℤ) (i d : ℕ) → is_constructor_year n ≡ false
    → placed_of_era c names era n i d ≡ Err (OutOfRange (year_out_of_range n))
unfolding placed_of_era
era_year_refused c names era n i d e = rw e refl

-- a number that passes its test
within : (last n : ℕ) → (nat_le 1 n && nat_le n last) ≡ true → (1 ≤ n) × (n ≤ last)
within last n passed = (grind (arith, nat_tests), grind (arith, nat_tests))

-- constructors take field years, which are covered
covered_year : (y : ℤ) → IsConstructorYear y → IsCoveredYear y
covered_year y h = (omega (arith, signed, h), omega (arith, signed, h))

field_year : (y : ℤ) → IsConstructorYear y → is_field_year y ≡ true
field_year y h =
    let fits : IsFieldYear y = (omega (arith, signed, h), omega (arith, signed, h)) in
    true-is_between _ _ y fits

module _ (c : CalendarList) (covered : (t : Date) → IsCoveredYear t.year → IsDate c t → IsValidDay (day_number c t)) where
  day_says : (y : ℤ) (i d : ℕ) → IsCoveredYear y → HasPlace c y i → SaysSame i d (placed_day c y i d) (resolved_in_month c y i Reject d)
  day_says y i d small place = by_test (nat_le 1 d && nat_le d last) refl where
    last : ℕ
    last = month_length c y i

    by_test : (b : Bool) → (nat_le 1 d && nat_le d last) ≡ b
        → SaysSame i d (cond b (Ok (date y i d)) (Err (out_of_range (codes "day") (pos d) (pos 1) (pos last))))
        (after (cond b (Ok d) (Err (InvalidDay last))) (λ (n : ℕ). valid_date c (date y i n)))
    by_test true passed =
        let dated : IsDate c (date y i d) = record { place = place; day = within last d passed } in
        let valid : is_valid_day (day_number c (date y i d)) ≡ true = true-is_between _ _ _ (covered (date y i d) small dated) in
        subst (λ (b : Bool). SaysSame i d (Ok (date y i d)) (cond b (Ok (date y i d)) (Err PastTheRange))) (sym valid) refl
    by_test false failed = (out_of_range (codes "day") (pos d) (pos 1) (pos last), refl, refl)

  year_says : (y : ℤ) (i d : ℕ) → IsCoveredYear y
      → SaysSame i d (placed_in_year c y i d) (resolved_in_year c (year_and_month y (ByOrdinal i)) Reject (Some i) d)
  year_says y i d small = by_test (nat_le 1 i && nat_le i last) refl where
    last : ℕ
    last = month_count c y

    by_test : (b : Bool) → (nat_le 1 i && nat_le i last) ≡ b
        → SaysSame i d (cond b (placed_day c y i d) (Err (out_of_range (codes "month") (pos i) (pos 1) (pos last))))
        (after (cond b (Ok i) (Err (InvalidOrdinalMonth last))) (λ (j : ℕ). resolved_in_month c y j Reject d))
    by_test true passed = day_says y i d small (within last i passed)
    by_test false failed = (out_of_range (codes "month") (pos i) (pos 1) (pos last), refl, refl)

  module _ (names : YearNames) (y : ℤ) (i d : ℕ) (taken : is_constructor_year y ≡ true) where
    small : IsConstructorYear y
    small = is_between-true _ _ y taken

    abbrev pub Says : Resolved Date → Type 0
    Says r = SaysSame i d (placed_date c y i d) r

    -- what the steps after the test of the year resolve to
    abbrev pub rest : Resolved (Option ℤ) → Resolved Date
    rest r = after r (λ (given : Option ℤ).
        after (in_year c names missing.Reject Reject (ByOrdinal i) (Some i) d given) (λ (there : YearAndMonth).
        resolved_in_year c there Reject (Some i) d))

    -- the fields of an extended year
    fields_say : Says (resolve c names (year_place_day y i d) Reject missing.Reject)
    unfolding resolve placed_date
    fields_say =
        subst (λ (b : Bool). SaysSame i d (cond b (placed_in_year c y i d) (Err (year_out_of_range y))) (resolve c names (year_place_day y i d) Reject missing.Reject)) (sym taken)
        (subst (λ (b : Bool). SaysSame i d (placed_in_year c y i d) (rest (after (cond b (Ok y) (Err PastTheRange)) some_year))) (sym (field_year y small))
        (year_says y i d (covered_year y small)))

    pub placed_says : (bag : Bag) (r : Resolved Date) → bag ≡ year_place_day y i d
        → r ≡ resolve c names bag Reject missing.Reject → Says r
    placed_says bag r fields e =
        subst Says (sym (e ∙ ap (λ (b : Bag). resolve c names b Reject missing.Reject) fields)) fields_say

  -- a fault of a number is one of a number or an era
  in_era : (i d : ℕ) (placed : Result Date RangeParts) (r : Resolved Date) → SaysSame i d placed r → SaysSameInEra i d (date_or_fault placed) r
  in_era i d placed (Ok t) e = ap date_or_fault e
  in_era i d placed (Err fault) (f, e, h) = (OutOfRange f, ap (λ (v : Option RangeParts). number_or_era v fault) e, ap date_or_fault h)

  module _ (names : YearNames) (era : List ℕ) (n : ℤ) (i d : ℕ) (taken : is_constructor_year n ≡ true)
      (reads_small : (y : ℤ) → IsConstructorYear n → names.reads era n ≡ Some y → IsCoveredYear y) where
    small_number : IsConstructorYear n
    small_number = is_between-true _ _ n taken

    abbrev pub SaysInEra : Resolved Date → Type 0
    SaysInEra r = SaysSameInEra i d (placed_of_era c names era n i d) r

    abbrev pub rest_in_era : Resolved (Option ℤ) → Resolved Date
    rest_in_era r = after r (λ (given : Option ℤ).
        after (in_year c names missing.Reject Reject (ByOrdinal i) (Some i) d given) (λ (there : YearAndMonth).
        resolved_in_year c there Reject (Some i) d))

    by_reading : (r : Option ℤ) → names.reads era n ≡ r
        → SaysSameInEra i d (placed_in_era c r i d) (rest_in_era (after (after (or_fault InvalidEra r) (λ (y : ℤ). Ok y)) some_year))
    by_reading None e = (NoEra, refl, refl)
    by_reading (Some y) e = in_era i d (placed_in_year c y i d) _ (year_says y i d (reads_small y small_number e))

    era_fields_say : SaysInEra (resolve c names (era_place_day era n i d) Reject missing.Reject)
    unfolding resolve placed_of_era
    era_fields_say =
        subst (λ (b : Bool). SaysSameInEra i d (cond b (placed_in_era c (names.reads era n) i d) (Err (OutOfRange (year_out_of_range n)))) (resolve c names (era_place_day era n i d) Reject missing.Reject)) (sym taken)
        (subst (λ (b : Bool). SaysSameInEra i d (placed_in_era c (names.reads era n) i d)
        (rest_in_era (after (after (cond b (Ok n) (Err PastTheRange)) (λ (m : ℤ). after (or_fault InvalidEra (names.reads era m)) (λ (y : ℤ). Ok y))) some_year))) (sym (field_year n small_number))
        (by_reading (names.reads era n) refl))

    pub placed_in_era_says : (bag : Bag) (r : Resolved Date) → bag ≡ era_place_day era n i d
        → r ≡ resolve c names bag Reject missing.Reject → SaysInEra r
    placed_in_era_says bag r fields e =
        subst SaysInEra (sym (e ∙ ap (λ (b : Bag). resolve c names b Reject missing.Reject) fields)) era_fields_say
