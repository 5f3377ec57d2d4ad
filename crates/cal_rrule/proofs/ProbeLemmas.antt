-- What a year's dates say of its months.
use Rattle.std.proofs.Common.{◌≡◌, ◌∙◌, ℕ, ◌+◌, ◌*◌, ◌≤◌, ◌<◌, ◌↔◌, ◌&&◌, nat_eq, nat_le, IsTrue, Bool, true, false, cond, Option, Some, None, Ok, Err, ℤ, refl, sym, ap, subst, arith}
use mathlib.Core.Bool.{true≢false}
use Rattle.std.proofs.lemmas.Bool.{and_parts}
use Rattle.std.proofs.lemmas.Bool.Decides.{nat_tests}
use Rattle.cal_days.specs.Day.{IsFieldYear, is_field_year, is_valid_day}
use Rattle.cal_days.proofs.RangeLemmas.{true-is_between}
use Rattle.cal_errors.specs.declared.errors.DateFromFieldsError.TheVariants as fault
use Rattle.cal_types.specs.Bag.{Bag}
use Rattle.cal_types.specs.CalendarList.{CalendarList, Date, HasPlace, IsLawful, date, day_number, is_date, month_at, month_count, month_length, place_of, spot}
use Rattle.cal_types.specs.Month.{MonthParts, month_rank}
use Rattle.cal_types.specs.Resolving.{Resolved, after, or_fault, resolve, resolved_in_month, resolved_ordinal, same_place, valid_date}
use Rattle.cal_types.specs.YearNames.{YearNames}
use Rattle.cal_types.specs.declared.options.MissingFieldsStrategy.TheVariants as missing
use Rattle.cal_types.specs.declared.options.Overflow.TheVariants.{Reject}
use Rattle.cal_types.proofs.AnniversaryLemmas.{rank-injective}
use Rattle.cal_types.proofs.ListLemmas.{place_of-own, place_of-some}
use Rattle.cal_rrule.specs.NearDays.{IsNearList}
use Rattle.cal_rrule.specs.Probes.{is_out_of_range}

-- a year, an ordinal month and a day
abbrev pub day_bag : ℤ → ℕ → ℕ → Bag
day_bag y i d = record {
  era = None;
  era_year = None;
  extended_year = Some y;
  month = None;
  month_code = None;
  ordinal_month = Some i;
  day = Some d;
}

-- a date exists, whether its day is valid or not
abbrev pub is_found : Resolved Date → Bool
is_found (Ok t) = true
is_found (Err e) = is_out_of_range e

pub resolve-day : (c : CalendarList) (names : YearNames) (y : ℤ) (i d : ℕ) → is_field_year y ≡ true →
    resolve c names (day_bag y i d) Reject missing.Reject
    ≡ after (resolved_ordinal (month_count c y) Reject i) (λ (j : ℕ). resolved_in_month c y j Reject d)
unfolding resolve
resolve-day c names y i d field = rw field refl

pub day-found : (c : CalendarList) (names : YearNames) (y : ℤ) (i d : ℕ) → IsFieldYear y →
    is_found (resolve c names (day_bag y i d) Reject missing.Reject) ≡ is_date c (date y i d)
day-found c names y i d field =
    ap is_found (resolve-day c names y i d (true-is_between _ _ y field)) ∙ by_place (nat_le 1 i && nat_le i (month_count c y))
  where
    by_valid : (b : Bool) (t : Date) → is_found (cond b (Ok t) (Err fault.Overflow)) ≡ true
    by_valid true t = refl
    by_valid false t = refl

    by_day : (b : Bool) → is_found (after (cond b (Ok d) (Err (fault.InvalidDay (month_length c y i)))) (λ (day : ℕ). valid_date c (date y i day))) ≡ b
    by_day true = by_valid (is_valid_day (day_number c (date y i d))) (date y i d)
    by_day false = refl

    by_place : (b : Bool) →
        is_found (after (cond b (Ok i) (Err (fault.InvalidOrdinalMonth (month_count c y)))) (λ (j : ℕ). resolved_in_month c y j Reject d))
        ≡ (b && (nat_le 1 d && nat_le d (month_length c y i)))
    by_place true = by_day (nat_le 1 d && nat_le d (month_length c y i))
    by_place false = refl

-- a thirteenth month
pub thirteen : (c : CalendarList) → IsLawful c → (y : ℤ) → is_date c (date y 13 1) ≡ true → 13 ≡ month_count c y
thirteen c law y e = grind (arith, nat_tests, e, law.count y)

pub twelve : (c : CalendarList) → IsLawful c → (y : ℤ) → is_date c (date y 13 1) ≡ false → 12 ≡ month_count c y
twelve c law y e = by_test (nat_le 13 (month_count c y)) refl
  where
    by_test : (b : Bool) → nat_le 13 (month_count c y) ≡ b → 12 ≡ month_count c y
    by_test true more =
        let place : HasPlace c y 13 = (omega arith, grind (arith, nat_tests, more)) in
        let some = (law.lengths y 13 place).0 in
        let test : nat_le 1 (month_length c y 13) ≡ true = grind (arith, nat_tests, some) in
        let is : is_date c (date y 13 1) ≡ true = rw (more, test) refl in
        absurd (true≢false (sym is ∙ e))
    by_test false fewer = grind (arith, nat_tests, fewer, law.count y)

-- the length of a month, from the greatest down
pub length-found : (c : CalendarList) (y : ℤ) (i d : ℕ) → month_length c y i ≤ d → is_date c (date y i d) ≡ true →
    d ≡ month_length c y i
length-found c y i d most e = grind (arith, nat_tests, most, e)

pub length-less : (c : CalendarList) (y : ℤ) (i d : ℕ) → HasPlace c y i → 1 ≤ d → month_length c y i ≤ d →
    is_date c (date y i d) ≡ false → month_length c y i < d
length-less c y i d place some most e = by_test (nat_le d (month_length c y i)) refl
  where
    by_test : (b : Bool) → nat_le d (month_length c y i) ≡ b → month_length c y i < d
    by_test true more =
        let one : nat_le 1 i ≡ true = grind (arith, nat_tests, place.0) in
        let two : nat_le i (month_count c y) ≡ true = grind (arith, nat_tests, place.1) in
        let three : nat_le 1 d ≡ true = grind (arith, nat_tests, some) in
        let is : is_date c (date y i d) ≡ true = rw (one, two, three, more) refl in
        absurd (true≢false (sym is ∙ e))
    by_test false fewer = grind (arith, nat_tests, fewer)

-- a year, an ordinal month and the month that is said to be there
abbrev pub month_bag : ℤ → ℕ → MonthParts → Bag
month_bag y i m = record {
  era = None;
  era_year = None;
  extended_year = Some y;
  month = Some m;
  month_code = None;
  ordinal_month = Some i;
  day = Some 1;
}

resolve-month : (c : CalendarList) (names : YearNames) (y : ℤ) (i : ℕ) (m : MonthParts) → is_field_year y ≡ true →
    resolve c names (month_bag y i m) Reject missing.Reject
    ≡ after (after (cond (c.is_of_kind m) (Ok m) (Err fault.MonthNotInCalendar)) (λ (known : MonthParts).
    after (or_fault fault.MonthNotInYear (place_of c y known)) (λ (j : ℕ). same_place (Some i) j)))
    (λ (j : ℕ). resolved_in_month c y j Reject 1)
unfolding resolve spot
resolve-month c names y i m field = rw field refl

-- the place of a month is the one that is said, and has a day
abbrev pub is_place_found : CalendarList → ℤ → ℕ → Option ℕ → Bool
is_place_found c y i None = false
is_place_found c y i (Some j) = nat_eq i j && nat_le 1 (month_length c y j)

pub month-found : (c : CalendarList) (names : YearNames) (y : ℤ) (i : ℕ) (m : MonthParts) → IsFieldYear y →
    is_found (resolve c names (month_bag y i m) Reject missing.Reject)
    ≡ (c.is_of_kind m && is_place_found c y i (place_of c y m))
month-found c names y i m field =
    ap is_found (resolve-month c names y i m (true-is_between _ _ y field)) ∙ by_kind (c.is_of_kind m)
  where
    by_valid : (b : Bool) (t : Date) → is_found (cond b (Ok t) (Err fault.Overflow)) ≡ true
    by_valid true t = refl
    by_valid false t = refl

    by_day : (j : ℕ) (b : Bool) → is_found (after (cond b (Ok 1) (Err (fault.InvalidDay (month_length c y j)))) (λ (day : ℕ). valid_date c (date y j day))) ≡ b
    by_day j true = by_valid (is_valid_day (day_number c (date y j 1))) (date y j 1)
    by_day j false = refl

    by_place : (j : ℕ) (b : Bool) →
        is_found (after (cond b (Ok j) (Err fault.InconsistentMonth)) (λ (k : ℕ). resolved_in_month c y k Reject 1))
        ≡ (b && nat_le 1 (month_length c y j))
    by_place j true = by_day j (nat_le 1 (month_length c y j))
    by_place j false = refl

    by_option : (o : Option ℕ) →
        is_found (after (after (or_fault fault.MonthNotInYear o) (λ (j : ℕ). same_place (Some i) j)) (λ (k : ℕ). resolved_in_month c y k Reject 1))
        ≡ is_place_found c y i o
    by_option (Some j) = by_place j (nat_eq i j)
    by_option None = refl

    by_kind : (b : Bool) →
        is_found (after (after (cond b (Ok m) (Err fault.MonthNotInCalendar)) (λ (known : MonthParts).
        after (or_fault fault.MonthNotInYear (place_of c y known)) (λ (j : ℕ). same_place (Some i) j)))
        (λ (k : ℕ). resolved_in_month c y k Reject 1))
        ≡ (b && is_place_found c y i (place_of c y m))
    by_kind true = by_option (place_of c y m)
    by_kind false = refl

-- a month is found in a place exactly if it stands there
pub in-place : (c : CalendarList) → IsLawful c → (y : ℤ) (i : ℕ) (m : MonthParts) → HasPlace c y i →
    IsTrue (c.is_of_kind m && is_place_found c y i (place_of c y m)) ↔ (month_at c y i ≡ m)
in-place c law y i m place = (there, back)
  where
    by_option : (o : Option ℕ) → place_of c y m ≡ o → IsTrue (is_place_found c y i o) → month_at c y i ≡ m
    by_option (Some j) e h =
        let tests = and_parts (nat_eq i j) (nat_le 1 (month_length c y j)) h in
        let same : i ≡ j = grind (arith, nat_tests, tests.0) in
        ap (λ (k : ℕ). month_at c y k) same ∙ rank-injective (month_at c y j) m (place_of-some c y m j e).1
    by_option None e h = absurd (true≢false (sym h))

    there : IsTrue (c.is_of_kind m && is_place_found c y i (place_of c y m)) → month_at c y i ≡ m
    there h = by_option (place_of c y m) refl (and_parts (c.is_of_kind m) (is_place_found c y i (place_of c y m)) h).1

    back : month_at c y i ≡ m → IsTrue (c.is_of_kind m && is_place_found c y i (place_of c y m))
    back e =
        let kind : c.is_of_kind m ≡ true = subst (λ (n : MonthParts). IsTrue (c.is_of_kind n)) e (law.kind y i place) in
        let at : place_of c y m ≡ Some i = subst (λ (n : MonthParts). place_of c y n ≡ Some i) e (place_of-own c y i (law.rises y) place) in
        let own : nat_eq i i ≡ true = grind (arith, nat_tests) in
        let some : nat_le 1 (month_length c y i) ≡ true = grind (arith, nat_tests, (law.lengths y i place).0) in
        rw (kind, at, own, some) refl

-- months from the least one on
pub rank-less : (c : CalendarList) (y : ℤ) (i : ℕ) (m : MonthParts) (rank : ℕ) (b : Bool) → month_rank m ≡ rank →
    rank ≤ month_rank (month_at c y i) → IsTrue b ↔ (month_at c y i ≡ m) → b ≡ false → rank < month_rank (month_at c y i)
rank-less c y i m rank b is least same fails = by_test (nat_le (month_rank (month_at c y i)) rank) refl
  where
    by_test : (t : Bool) → nat_le (month_rank (month_at c y i)) rank ≡ t → rank < month_rank (month_at c y i)
    by_test true e =
        let equal : month_rank (month_at c y i) ≡ month_rank m = grind (arith, nat_tests, e, least, is) in
        absurd (true≢false (sym (same.1 (rank-injective (month_at c y i) m equal)) ∙ fails))
    by_test false e = grind (arith, nat_tests, e)

-- the last one
pub rank-last : (c : CalendarList) → IsLawful c → IsNearList c → (y : ℤ) (i : ℕ) (m : MonthParts) → HasPlace c y i →
    month_rank m ≡ 27 → 27 ≤ month_rank (month_at c y i) → m ≡ month_at c y i
rank-last c law nearby y i m place is least =
    rank-injective m (month_at c y i) (omega (arith, is, least, most (month_at c y i).is_leap (nearby.months (month_at c y i) (law.kind y i place))))
  where
    most : (b : Bool) → (month_at c y i).number ≤ 13 → 2 * (month_at c y i).number + cond b 1 0 ≤ 27
    most true few = omega (arith, few)
    most false few = omega (arith, few)
