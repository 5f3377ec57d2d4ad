-- A Chinese or Korean list is a calendar's, and where it has each month.
use Rattle.std.proofs.Common.{◌≡◌, ℕ, zero, suc, ◌+◌, ◌-◌, ◌/◌, ◌%◌, ◌^◌, ◌<◌, ◌≤◌, Bool, true, false, if◌then◌else◌, IsTrue, Option, Some, None, Result, Ok, refl, sym, subst, ap, ◌∙◌, arith, ℤ}
use Rattle.std.specs.Prelude.{nat_eq, ok_or}
use Rattle.std.proofs.lemmas.Bool.Decides.{nat_tests}
use Rattle.cal_types.specs.Month.{MonthParts, month_rank}
use Rattle.cal_errors.specs.declared.errors.MonthError.{MonthError}
use Rattle.cal_errors.specs.declared.errors.MonthError.TheVariants.{NotInYear}
use Rattle.cal_types.specs.declared.options.Overflow.{Overflow}
use Rattle.cal_types.specs.declared.options.Overflow.TheVariants.{Constrain, Reject}
use Rattle.cal_types.specs.CalendarList.{Entry, entry_at, days_before, month_length, month_count, month_at, place_of, spot, first_of_two, HasPlace, IsLawful}
use Rattle.cal_types.proofs.ListLemmas.{days_before-first, days_before-next, place_of-own, place_of-some}
use Rattle.cal_arith.specs.Places.{ordinal_month}
use Rattle.cal_east_asian.specs.EastAsianYear.{is_leap_place, months_of_year}
use Rattle.cal_east_asian.specs.RuleYears.{rule_year}
use Rattle.cal_east_asian.specs.EastAsianMonths.{month_in_place}
use Rattle.cal_east_asian.specs.EastAsianPlaces.{is_east_asian_month, month_days, days_of_months, plain_month_place, absent_month_place, leap_month_place, east_asian_place}
use Rattle.cal_east_asian.specs.laws.EastAsianEntryLaws.{entries-length, entries-at, entry_by, rank-rises, kind-in_place}
use Rattle.cal_east_asian.specs.EastAsianList.{east_asian_list}
use Rattle.cal_east_asian.specs.declared.east_asian_traditional_year.EastAsianTraditionalYear.{EastAsianTraditionalYear}

abbrev pub month_of : ℕ → Bool → MonthParts
month_of k is_leap = record { number = k; is_leap = is_leap }

-- a plain month stands in its place
pub plain-in_place : (p k : ℕ) → 1 ≤ k → month_in_place p (plain_month_place p k) ≡ month_of k false
plain-in_place p k low = by_bool_eq where
  number : (month_in_place p (plain_month_place p k)).number ≡ k
  number = grind (arith, nat_tests)

  leap : (month_in_place p (plain_month_place p k)).is_leap ≡ false
  leap = grind (arith, nat_tests)

  by_bool_eq : month_in_place p (plain_month_place p k) ≡ month_of k false
  by_bool_eq = ap (λ (n : ℕ). month_of n (month_in_place p (plain_month_place p k)).is_leap) number ∙ ap (month_of k) leap

pub plain-within : (p k : ℕ) → IsTrue (is_leap_place p) → 1 ≤ k → k ≤ 12 → (1 ≤ plain_month_place p k) × (plain_month_place p k ≤ months_of_year p)
plain-within p k leap low high = (grind (arith, nat_tests), grind (arith, nat_tests))

-- and the leap month in the place after the plain month of its number
pub leap-in_place : (k : ℕ) → month_in_place (k + 1) (k + 1) ≡ month_of k true
leap-in_place k = ap (λ (n : ℕ). month_of n (nat_eq (k + 1) (k + 1))) number ∙ ap (month_of k) leap where
  number : (month_in_place (k + 1) (k + 1)).number ≡ k
  number = grind (arith, nat_tests)

  leap : nat_eq (k + 1) (k + 1) ≡ true
  leap = grind (arith, nat_tests)

-- no other place has a month of its rank
pub leap-not_in_place : (p k i : ℕ) → nat_eq p (k + 1) ≡ false → 1 ≤ i → month_rank (month_in_place p i) ≡ month_rank (month_of k true) → ⊥
leap-not_in_place p k i other low same = grind (arith, nat_tests)

module _ (year_of : ℤ → EastAsianTraditionalYear) where
  -- the place of the leap month of a year, or 0
  abbrev pub leap_place_of : ℤ → ℕ
  leap_place_of y = (year_of (rule_year y)).leap_month

  abbrev pub long_months_of : ℤ → ℕ
  long_months_of y = (year_of (rule_year y)).long_months

  pub leap_place-in : (y : ℤ) → IsTrue (is_leap_place (leap_place_of y))
  leap_place-in y = (year_of (rule_year y)).valid.1.1

  pub month_count-east_asian : (y : ℤ) → month_count (east_asian_list year_of) y ≡ months_of_year (leap_place_of y)
  unfolding east_asian_list
  month_count-east_asian y = entries-length (leap_place_of y) 1 (months_of_year (leap_place_of y)) (long_months_of y)

  entry_at-east_asian : (y : ℤ) (i : ℕ) → HasPlace (east_asian_list year_of) y i → entry_at (east_asian_list year_of) y i ≡ entry_by (leap_place_of y) i (long_months_of y / 2 ^ (i - 1) % 2)
  unfolding east_asian_list
  entry_at-east_asian y i h =
      let p = leap_place_of y in
      let few : i - 1 < months_of_year p = omega (arith, h, month_count-east_asian y) in
      let place : 1 + (i - 1) ≡ i = omega (arith, h.0) in
      entries-at p 1 (months_of_year p) (long_months_of y) (i - 1) few ∙ ap (λ (j : ℕ). entry_by p j (long_months_of y / 2 ^ (i - 1) % 2)) place

  pub month_at-east_asian : (y : ℤ) (i : ℕ) → HasPlace (east_asian_list year_of) y i → month_at (east_asian_list year_of) y i ≡ month_in_place (leap_place_of y) i
  month_at-east_asian y i h = ap (λ (e : Entry). e.month) (entry_at-east_asian y i h)

  pub month_length-east_asian : (y : ℤ) (i : ℕ) → HasPlace (east_asian_list year_of) y i → month_length (east_asian_list year_of) y i ≡ month_days (long_months_of y) i
  month_length-east_asian y i h = ap (λ (e : Entry). e.days) (entry_at-east_asian y i h)

  -- a year has 12 or 13 months
  pub count-small : (y : ℤ) → (12 ≤ month_count (east_asian_list year_of) y) × (month_count (east_asian_list year_of) y ≤ 13)
  count-small y = (omega (arith, month_count-east_asian y, within.0), omega (arith, month_count-east_asian y, within.1)) where
    within : (12 ≤ months_of_year (leap_place_of y)) × (months_of_year (leap_place_of y) ≤ 13)
    within = (grind (arith, nat_tests), grind (arith, nat_tests))

  -- the days before a month
  pub days_before-east_asian : (y : ℤ) (n : ℕ) → n ≤ month_count (east_asian_list year_of) y → days_before (east_asian_list year_of) y (n + 1) ≡ days_of_months (long_months_of y) n
  days_before-east_asian y zero h = days_before-first (east_asian_list year_of) y
  days_before-east_asian y (suc n) h =
      let here : HasPlace (east_asian_list year_of) y (n + 1) = (omega arith, omega arith) in
      let e : suc n + 1 ≡ n + 1 + 1 = omega arith in
      ap (days_before (east_asian_list year_of) y) e
      ∙ (days_before-next (east_asian_list year_of) y (n + 1) here ∙ omega (arith, days_before-east_asian y n (omega arith), month_length-east_asian y (n + 1) here))

  rises : (y : ℤ) (i j : ℕ) → HasPlace (east_asian_list year_of) y i → HasPlace (east_asian_list year_of) y j → i < j → month_rank (month_at (east_asian_list year_of) y i) < month_rank (month_at (east_asian_list year_of) y j)
  rises y i j h k lt = rw (month_at-east_asian y i h, month_at-east_asian y j k) (rank-rises (leap_place_of y) i j h.0 lt)

  pub is_of_kind-east_asian : (m : MonthParts) → (east_asian_list year_of).is_of_kind m ≡ is_east_asian_month m
  unfolding east_asian_list
  is_of_kind-east_asian m = refl

  -- the place of the month that stands in a place
  place-at : (y : ℤ) (i : ℕ) (m : MonthParts) → (1 ≤ i) × (i ≤ months_of_year (leap_place_of y)) → month_in_place (leap_place_of y) i ≡ m → place_of (east_asian_list year_of) y m ≡ Some i
  place-at y i m within same =
      let here : HasPlace (east_asian_list year_of) y i = (within.0, omega (arith, within.1, month_count-east_asian y)) in
      ap (place_of (east_asian_list year_of) y) (sym (month_at-east_asian y i here ∙ same)) ∙ place_of-own (east_asian_list year_of) y i (rises y) here

  -- the place of a plain month
  pub plain-place : (y : ℤ) (k : ℕ) → 1 ≤ k → k ≤ 12 → place_of (east_asian_list year_of) y (month_of k false) ≡ Some (plain_month_place (leap_place_of y) k)
  plain-place y k low high =
      let p = leap_place_of y in
      place-at y (plain_month_place p k) (month_of k false) (plain-within p k (leap_place-in y) low high) (plain-in_place p k low)

  -- the place of the leap month that a year has
  pub leap-place : (y : ℤ) (k : ℕ) → nat_eq (leap_place_of y) (k + 1) ≡ true → place_of (east_asian_list year_of) y (month_of k true) ≡ Some (leap_place_of y)
  leap-place y k same =
      let p = leap_place_of y in
      let is : k + 1 ≡ p = grind (arith, nat_tests) in
      place-at y p (month_of k true) (grind (arith, nat_tests), grind (arith, nat_tests)) (subst (λ (q : ℕ). month_in_place q q ≡ month_of k true) is (leap-in_place k))

  option-none : (o : Option ℕ) → ((i : ℕ) → o ≡ Some i → ⊥) → o ≡ None
  option-none None h = refl
  option-none (Some i) h = absurd (h i refl)

  -- another leap month has none
  pub leap-absent : (y : ℤ) (k : ℕ) → nat_eq (leap_place_of y) (k + 1) ≡ false → place_of (east_asian_list year_of) y (month_of k true) ≡ None
  leap-absent y k other = option-none (place_of (east_asian_list year_of) y (month_of k true)) (λ i e.
      let found = place_of-some (east_asian_list year_of) y (month_of k true) i e in
      leap-not_in_place (leap_place_of y) k i other found.0.0 (ap month_rank (sym (month_at-east_asian y i found.0)) ∙ found.1))

  -- a month's spot
  abbrev spot_by : ℕ → MonthParts → Overflow → Result ℕ MonthError
  spot_by p m o = if m.is_leap then leap_month_place p m.number o else Ok (plain_month_place p m.number)

  plain-spot : (y : ℤ) (k : ℕ) (o : Overflow) → 1 ≤ k → k ≤ 12 → spot (east_asian_list year_of) y (month_of k false) o ≡ Some (plain_month_place (leap_place_of y) k)
  unfolding spot
  plain-spot y k Reject low high = plain-place y k low high
  plain-spot y k Constrain low high = rw (plain-place y k low high) refl

  leap-spot : (y : ℤ) (k : ℕ) (o : Overflow) → nat_eq (leap_place_of y) (k + 1) ≡ true → spot (east_asian_list year_of) y (month_of k true) o ≡ Some (leap_place_of y)
  unfolding spot
  leap-spot y k Reject same = leap-place y k same
  leap-spot y k Constrain same = rw (leap-place y k same) refl

  absent-spot : (y : ℤ) (k : ℕ) (o : Overflow) → 1 ≤ k → k ≤ 12 → nat_eq (leap_place_of y) (k + 1) ≡ false → ok_or (spot (east_asian_list year_of) y (month_of k true) o) NotInYear ≡ absent_month_place (leap_place_of y) k o
  unfolding spot east_asian_list
  absent-spot y k Reject low high other = ap (λ (r : Option ℕ). ok_or r NotInYear) (leap-absent y k other)
  absent-spot y k Constrain low high other = ap (λ (r : Option ℕ). ok_or r NotInYear) (ap (λ (r : Option ℕ). first_of_two r (place_of (east_asian_list year_of) y (month_of k false))) (leap-absent y k other) ∙ plain-place y k low high)

  spot-leap : (y : ℤ) (k : ℕ) (o : Overflow) (b : Bool) → nat_eq (leap_place_of y) (k + 1) ≡ b → 1 ≤ k → k ≤ 12 → ok_or (spot (east_asian_list year_of) y (month_of k true) o) NotInYear ≡ leap_month_place (leap_place_of y) k o
  spot-leap y k o true same low high = rw (same, leap-spot y k o same) refl
  spot-leap y k o false other low high = rw other (absent-spot y k o low high other)

  spot-known : (y : ℤ) (k : ℕ) (is_leap : Bool) (o : Overflow) → 1 ≤ k → k ≤ 12 → ok_or (spot (east_asian_list year_of) y (month_of k is_leap) o) NotInYear ≡ spot_by (leap_place_of y) (month_of k is_leap) o
  spot-known y k false o low high = ap (λ (r : Option ℕ). ok_or r NotInYear) (plain-spot y k o low high)
  spot-known y k true o low high = spot-leap y k o (nat_eq (leap_place_of y) (k + 1)) refl low high

  place-by : (y : ℤ) (m : MonthParts) (o : Overflow) (b : Bool) → is_east_asian_month m ≡ b → ordinal_month (east_asian_list year_of) y m o ≡ east_asian_place (leap_place_of y) m o
  place-by y m o true h = rw (is_of_kind-east_asian m ∙ h, h) (spot-known y m.number m.is_leap o (grind (arith, nat_tests)) (grind (arith, nat_tests)))
  place-by y m o false h = rw (is_of_kind-east_asian m ∙ h, h) refl

  -- the place of a month, in closed form
  pub ordinal_month-east_asian : (y : ℤ) (m : MonthParts) (o : Overflow) → ordinal_month (east_asian_list year_of) y m o ≡ east_asian_place (leap_place_of y) m o
  ordinal_month-east_asian y m o = place-by y m o (is_east_asian_month m) refl

  some-ok : (o : Option ℕ) (j : ℕ) → ok_or o NotInYear ≡ Ok j → o ≡ Some j
  some-ok (Some i) j e = let same : i ≡ j = cc in ap Some same
  some-ok None j e = absurd cc

  stands-leap : (y : ℤ) (k : ℕ) (b : Bool) → nat_eq (leap_place_of y) (k + 1) ≡ b → 1 ≤ k → k ≤ 12 → (j : ℕ) × (spot (east_asian_list year_of) y (month_of k true) Constrain ≡ Some j)
  stands-leap y k true same low high = (leap_place_of y, leap-spot y k Constrain same)
  stands-leap y k false other low high = (plain_month_place (leap_place_of y) k, some-ok (spot (east_asian_list year_of) y (month_of k true) Constrain) (plain_month_place (leap_place_of y) k) (absent-spot y k Constrain low high other))

  stands-known : (y : ℤ) (k : ℕ) (is_leap : Bool) → 1 ≤ k → k ≤ 12 → (j : ℕ) × (spot (east_asian_list year_of) y (month_of k is_leap) Constrain ≡ Some j)
  stands-known y k false low high = (plain_month_place (leap_place_of y) k, plain-spot y k Constrain low high)
  stands-known y k true low high = stands-leap y k (nat_eq (leap_place_of y) (k + 1)) refl low high

  days-within : (long i : ℕ) → (1 ≤ month_days long i) × (month_days long i ≤ 31)
  days-within long i = (omega arith, omega arith)

  -- the list is a calendar's
  pub east_asian_list-lawful : IsLawful (east_asian_list year_of)
  east_asian_list-lawful = record {
    count = count-small;
    lengths = λ y i h. let days = days-within (long_months_of y) i in (omega (arith, days, month_length-east_asian y i h), omega (arith, days, month_length-east_asian y i h));
    rises = rises;
    kind = λ y i h. is_of_kind-east_asian (month_at (east_asian_list year_of) y i) ∙ (ap is_east_asian_month (month_at-east_asian y i h) ∙ kind-in_place (leap_place_of y) i (leap_place-in y) h.0 (omega (arith, h.1, month_count-east_asian y)));
    stands = λ y m h. let known : is_east_asian_month m ≡ true = sym (is_of_kind-east_asian m) ∙ h in stands-known y m.number m.is_leap (grind (arith, nat_tests)) (grind (arith, nat_tests));
  }
