-- What is resolved is a date.
use Rattle.std.proofs.Common.{◌≡◌, ℕ, ◌≤◌, Bool, true, false, cond, ◌&&◌, nat_le, nat_eq, min, max, Option, Some, None, Ok, Err, refl, subst, arith, ℤ}
use Rattle.std.proofs.lemmas.Bool.Decides.{nat_tests}
use Rattle.cal_days.specs.Day.{IsValidDay, is_valid_day}
use Rattle.cal_types.specs.Month.{MonthParts}
use Rattle.cal_types.specs.Bag.{Bag}
use Rattle.cal_types.specs.declared.options.Overflow.{Overflow}
use Rattle.cal_types.specs.declared.options.Overflow.TheVariants.{Constrain, Reject}
use Rattle.cal_errors.specs.declared.errors.DateFromFieldsError.{DateFromFieldsError}
use Rattle.cal_types.specs.declared.options.MissingFieldsStrategy.{MissingFieldsStrategy}
use Rattle.cal_errors.specs.declared.errors.DateFromFieldsError.TheVariants.{Overflow as OutOfRange, MonthNotInYear, InconsistentMonth, InvalidOrdinalMonth, InvalidDay}
use Rattle.cal_types.specs.CalendarList.{CalendarList, Date, date, month_count, month_length, day_number, spot, HasPlace, IsDate, IsLawful}
use Rattle.cal_types.specs.YearNames.{YearNames}
use Rattle.cal_types.specs.Resolving.{Resolved, after, or_fault, MonthName, ByMonth, ByCode, ByOrdinal, YearAndMonth, month_known, resolved_place, same_place, resolved_number, place_in_year, resolved_day, valid_date, resolved_in_month, resolved_in_year, day_asked, month_named, year_named, in_year, resolve}
use Rattle.cal_days.proofs.RangeLemmas.{is_between-true}
use Rattle.cal_types.proofs.ListLemmas.{spot-place}

-- where the whole is resolved, so is the first step, and the rest from its answer
pub after-ok : {T U : Type 0} (r : Resolved T) (next : T → Resolved U) (y : U) → after r next ≡ Ok y → (x : T) × (r ≡ Ok x) × (next x ≡ Ok y)
after-ok (Ok x) next y e = (x, refl, e)
after-ok (Err f) next y e = cc

-- a test that guards an answer passed
if_ok : {T : Type 0} (b : Bool) (x y : T) (f : DateFromFieldsError) → cond b (Ok x) (Err f) ≡ Ok y → (b ≡ true) × (x ≡ y)
if_ok true x y f e = (refl, cc)
if_ok false x y f e = cc

-- a date that passes its step
pub valid_date-ok : (c : CalendarList) (t u : Date) → valid_date c t ≡ Ok u → (t ≡ u) × IsValidDay (day_number c t)
valid_date-ok c t u e =
    let test = if_ok (is_valid_day (day_number c t)) t u OutOfRange e in (test.1, is_between-true _ _ (day_number c t) test.0)

-- what is there
or_fault-ok : {T : Type 0} (e : DateFromFieldsError) (r : Option T) (x : T) → or_fault e r ≡ Ok x → r ≡ Some x
or_fault-ok e None x h = cc
or_fault-ok e (Some y) x h = cc

-- a number that is tested, or clamped, lies from 1 to the last one
clamped-within : (last i j : ℕ) → 1 ≤ last → max 1 (min i last) ≡ j → (1 ≤ j) × (j ≤ last)
clamped-within last i j some same = (omega arith, omega arith)

tested-within : (last i j : ℕ) → (nat_le 1 i && nat_le i last) ≡ true → i ≡ j → (1 ≤ j) × (j ≤ last)
tested-within last i j passed same = (grind (arith, nat_tests), grind (arith, nat_tests))

same_ok : {T : Type 0} (x y : T) → ◌≡◌ {A = Resolved T} (Ok x) (Ok y) → x ≡ y
same_ok x y e = cc

-- a resolved number is one from 1 to the last
pub resolved_number-ok : (last : ℕ) (fault : DateFromFieldsError) (o : Overflow) (i j : ℕ) → 1 ≤ last → resolved_number last fault o i ≡ Ok j → (1 ≤ j) × (j ≤ last)
resolved_number-ok last fault Reject i j some h = let test = if_ok (nat_le 1 i && nat_le i last) i j fault h in tested-within last i j test.0 test.1
resolved_number-ok last fault Constrain i j some h = clamped-within last i j some (same_ok _ j h)

-- a place beside an ordinal month is itself
same_place-ok : (ordinal : Option ℕ) (i j : ℕ) → same_place ordinal i ≡ Ok j → i ≡ j
same_place-ok None i j h = same_ok i j h
same_place-ok (Some given) i j h = (if_ok (nat_eq given i) i j InconsistentMonth h).1

module _ (c : CalendarList) (law : IsLawful c) where
  -- the place of a month that is named by itself or by its code
  place_of_month : (y : ℤ) (o : Overflow) (m : MonthName) (ordinal : Option ℕ) (i : ℕ) → after (month_known c m) (λ (known : MonthParts). after (resolved_place (spot c y known o)) (λ (j : ℕ). same_place ordinal j)) ≡ Ok i → HasPlace c y i
  place_of_month y o m ordinal i e =
      let known = after-ok (month_known c m) _ i e in
      let found = after-ok (resolved_place (spot c y known.0 o)) (λ (j : ℕ). same_place ordinal j) i known.2 in
      subst (HasPlace c y) (same_place-ok ordinal found.0 i found.2) (spot-place c y known.0 o found.0 (or_fault-ok MonthNotInYear (spot c y known.0 o) found.0 found.1))

  -- the year has the place that is resolved
  pub place_in_year-ok : (y : ℤ) (o : Overflow) (m : MonthName) (ordinal : Option ℕ) (i : ℕ) → place_in_year c y o m ordinal ≡ Ok i → HasPlace c y i
  place_in_year-ok y o (ByMonth m) ordinal i e = place_of_month y o (ByMonth m) ordinal i e
  place_in_year-ok y o (ByCode code) ordinal i e = place_of_month y o (ByCode code) ordinal i e
  place_in_year-ok y o (ByOrdinal n) ordinal i e = resolved_number-ok (month_count c y) (InvalidOrdinalMonth (month_count c y)) o n i (omega (arith, law.count y)) e

  -- from a place of a year on
  pub resolved_in_month-date : (y : ℤ) (i : ℕ) (o : Overflow) (d : ℕ) (t : Date) → HasPlace c y i → resolved_in_month c y i o d ≡ Ok t → IsDate c t × IsValidDay (day_number c t)
  resolved_in_month-date y i o d t place e =
      let step = after-ok (resolved_day (month_length c y i) o d) (λ (day : ℕ). valid_date c (date y i day)) t e in
      let valid = valid_date-ok c (date y i step.0) t step.2 in
      let day = resolved_number-ok (month_length c y i) (InvalidDay (month_length c y i)) o d step.0 (law.lengths y i place).0 step.1 in
      (subst (IsDate c) valid.0 record { place = place; day = day }, subst (λ (u : Date). IsValidDay (day_number c u)) valid.0 valid.1)

  -- from a year on
  resolved_in_year-date : (there : YearAndMonth) (o : Overflow) (ordinal : Option ℕ) (d : ℕ) (t : Date) → resolved_in_year c there o ordinal d ≡ Ok t → IsDate c t × IsValidDay (day_number c t)
  resolved_in_year-date there o ordinal d t e =
      let step = after-ok (place_in_year c there.year o there.month ordinal) (λ (i : ℕ). resolved_in_month c there.year i o d) t e in
      resolved_in_month-date there.year step.0 o d t (place_in_year-ok there.year o there.month ordinal step.0 step.1) step.2

  -- resolved fields are a date in the valid range
  pub resolve-date : (names : YearNames) (bag : Bag) (o : Overflow) (strategy : MissingFieldsStrategy) (t : Date) → resolve c names bag o strategy ≡ Ok t → IsDate c t × IsValidDay (day_number c t)
  unfolding resolve
  resolve-date names bag o strategy t e =
      let of_day = after-ok (day_asked strategy bag) _ t e in
      let of_name = after-ok (month_named bag.month bag.month_code bag.ordinal_month) _ t of_day.2 in
      let of_year = after-ok (year_named names bag.era bag.era_year bag.extended_year) _ t of_name.2 in
      let there = after-ok (in_year c names strategy o of_name.0 bag.ordinal_month of_day.0 of_year.0) _ t of_year.2 in
      resolved_in_year-date there.0 o bag.ordinal_month of_day.0 t there.2
