-- Sets of listed values: any list of places, months or weekdays has a set with these values and no other.
use Rattle.std.proofs.Common.{◌≡◌, ◌∙◌, ℕ, zero, suc, ◌+◌, ◌*◌, ◌/◌, ◌%◌, ◌<◌, ◌≤◌, ◌==◌, ◌&&◌, Bool, true, false, if◌then◌else◌, nat_eq, nat_lt, List, [], ◌∷◌, get_or, Option, Some, None, max, refl, sym, ap, arith}
use Rattle.std.specs.Int.{bit_at}
use Rattle.std.specs.List.{list_any}
use Rattle.std.proofs.lemmas.Bool.{and_left, and_right, or_from}
use Rattle.std.proofs.lemmas.Bool.Decides.{nat_tests}
use Rattle.std.proofs.lemmas.Nat.Bits.{bit_at-suc, bit_at-zero, bit_at_lowest}
use Rattle.cal_types.specs.Month.{MonthParts}
use Rattle.cal_types.specs.Weekday.{days_since_sunday}
use Rattle.cal_types.specs.declared.weekday.Weekday.{Weekday}
use Rattle.cal_types.specs.declared.weekday.Weekday.TheVariants.{Monday, Tuesday, Wednesday, Thursday, Friday, Saturday, Sunday}
use Rattle.cal_rule.specs.Lists.{HasValues}
use Rattle.cal_rule.specs.Sets.{has_bit, has_month, has_number, has_ordinal, has_place, has_weekday, is_month, is_ordinal, is_place, is_weekday_place, number_of}
use Rattle.cal_rule.specs.declared.month_set.MonthSet.{MonthSet}
use Rattle.cal_rule.specs.declared.place_set.Place.{Place}
use Rattle.cal_rule.specs.declared.place_set.Place.TheVariants.{FromFront, FromBack}
use Rattle.cal_rule.specs.declared.place_set.PlaceSet.{PlaceSet}
use Rattle.cal_rule.specs.declared.weekday_places.WeekdayPlace.{WeekdayPlace}
use Rattle.cal_rule.specs.declared.weekday_places.WeekdayPlaces.{WeekdayPlaces}

-- ---- bits

-- twice a word and a bit: the lowest bit is this one, and the others are the word's
bits-next : (test : ℕ → Bool) (word : ℕ) → ((i : ℕ) → has_bit word i ≡ test (suc i)) →
    (b : Bool) → test 0 ≡ b → (i : ℕ) → has_bit (2 * word + (if b then 1 else 0)) i ≡ test i
bits-next test word has true is zero =
    let odd : bit_at (2 * word + 1) 0 ≡ 1 = bit_at_lowest (2 * word + 1) ∙ omega arith in
    ap (λ d. d == 1) odd ∙ sym is
bits-next test word has false is zero =
    let even : bit_at (2 * word + 0) 0 ≡ 0 = bit_at_lowest (2 * word + 0) ∙ omega arith in
    ap (λ d. d == 1) even ∙ sym is
bits-next test word has true is (suc i) =
    let half : (2 * word + 1) / 2 ≡ word = omega arith in
    ap (λ d. d == 1) (bit_at-suc (2 * word + 1) i) ∙ ap (λ w. has_bit w i) half ∙ has i
bits-next test word has false is (suc i) =
    let half : (2 * word + 0) / 2 ≡ word = omega arith in
    ap (λ d. d == 1) (bit_at-suc (2 * word + 0) i) ∙ ap (λ w. has_bit w i) half ∙ has i

-- there is a word whose bits are the numbers that pass a test, where none from a bound on passes it
pub bits-exist : (n : ℕ) (test : ℕ → Bool) → ((i : ℕ) → n ≤ i → test i ≡ false) →
    (word : ℕ) × ((i : ℕ) → has_bit word i ≡ test i)
bits-exist zero test past = (0, λ i. ap (λ d. d == 1) (bit_at-zero i) ∙ sym (past i (omega arith)))
bits-exist (suc n) test past =
    let high = bits-exist n (λ i. test (suc i)) (λ i from. past (suc i) (omega (arith, from))) in
    (2 * high.0 + (if test 0 then 1 else 0), bits-next test high.0 high.1 (test 0) refl)

-- ---- rows

-- one item before a row: each place has what is asked there
row-next : {A : Type 0} (P : ℕ → A → Type 0) (default x : A) (row : List A) → P 0 x →
    ((k : ℕ) → P (suc k) (get_or row k default)) → (k : ℕ) → P k (get_or (x ∷ row) k default)
row-next P default x row first later zero = first
row-next P default x row first later (suc k) = later k

-- there is a row of so many items that are as is asked at their places, where that holds of what stands past them
row-exists : {A : Type 0} (n : ℕ) (P : ℕ → A → Type 0) (default : A) → ((k : ℕ) → (x : A) × P k x) →
    ((k : ℕ) → n ≤ k → P k default) → (row : List A) × ((k : ℕ) → P k (get_or row k default))
row-exists zero P default items past = ([], λ k. past k (omega arith))
row-exists (suc n) P default items past =
    let later = row-exists n (λ k. P (suc k)) default (λ k. items (suc k))
    (λ k from. past (suc k) (omega (arith, from))) in
    ((items 0).0 ∷ later.0, row-next P default (items 0).0 later.0 (items 0).1 later.1)

-- ---- words in a row

-- what a word in a place has to hold: those of its 64 numbers that pass a test
abbrev IsWordOf : (ℕ → Bool) → ℕ → ℕ → Type 0
IsWordOf test place word = (i : ℕ) → i < 64 → has_bit word i ≡ test (64 * place + i)

-- a number at or past 64 isn't below it
not_low : (b : Bool) (i : ℕ) → 64 ≤ i → (nat_lt i 64 && b) ≡ false
not_low b i from = and_left (nat_lt i 64) b (grind (arith, nat_tests, from))

-- a number below 64 passes as the test says
is_low : (b : Bool) (i : ℕ) → i < 64 → (nat_lt i 64 && b) ≡ b
is_low b i low = let is : nat_lt i 64 ≡ true = grind (arith, nat_tests, low) in ap (λ c. c && b) is

-- there is such a word
word-exists : (test : ℕ → Bool) (place : ℕ) → (word : ℕ) × IsWordOf test place word
word-exists test place =
    let word = bits-exist 64 (λ i. nat_lt i 64 && test (64 * place + i)) (λ i. not_low (test (64 * place + i)) i) in
    (word.0, λ i low. word.1 i ∙ is_low (test (64 * place + i)) i low)

-- there are words whose numbers are those that pass a test, where none from a bound on passes it
pub words-exist : (n : ℕ) (test : ℕ → Bool) → ((i : ℕ) → n ≤ i → test i ≡ false) →
    (words : List ℕ) × ((i : ℕ) → has_number words i ≡ test i)
words-exist n test past =
    let row = row-exists n (IsWordOf test) 0 (word-exists test) none in
    (row.0, λ i. row.1 (i / 64) (i % 64) (omega arith) ∙ ap test (whole i))
  where
    none : (place : ℕ) → n ≤ place → IsWordOf test place 0
    none place from i low = ap (λ d. d == 1) (bit_at-zero i) ∙ sym (past (64 * place + i) (omega (arith, from)))

    whole : (i : ℕ) → 64 * (i / 64) + i % 64 ≡ i
    whole i = omega arith

-- ---- numbers in a list of values

-- a bound on the numbers of some values
abbrev bound_of : {V : Type 0} → (V → ℕ) → List V → ℕ
bound_of number [] = 0
bound_of number (v ∷ values) = max (number v + 1) (bound_of number values)

-- a test that no value with a smaller number passes is passed by no value of a list whose bound isn't above the number
none-past : {V : Type 0} (number : V → ℕ) (test : V → Bool) (i : ℕ) → ((v : V) → number v < i → test v ≡ false) →
    (values : List V) → bound_of number values ≤ i → list_any test values ≡ false
none-past number test i apart [] past = refl
none-past number test i apart (v ∷ values) past =
    or_from (test v) (list_any test values) (apart v (omega (arith, past)))
    (none-past number test i apart values (omega (arith, past)))

-- a number is not a smaller one
not_smaller : (m i : ℕ) → m < i → nat_eq i m ≡ false
not_smaller m i less = grind (arith, nat_tests, less)

-- ---- sets of places

-- a place with a smaller number is another one, from the front
other_front : (i : ℕ) (p : Place) → number_of p < i → is_place (FromFront i) p ≡ false
other_front i (FromFront n) less = not_smaller n i less
other_front i (FromBack n) less = refl

-- and from the back
other_back : (i : ℕ) (p : Place) → number_of p < i → is_place (FromBack i) p ≡ false
other_back i (FromFront n) less = refl
other_back i (FromBack n) less = not_smaller n i less

-- there is a set that has the places of a list and no other
pub places-exist : (words : ℕ) (values : List Place) → (set : PlaceSet words) × HasValues has_place is_place set values
places-exist words values =
    let bound = bound_of number_of values in
    let front = words-exist bound (λ i. list_any (is_place (FromFront i)) values)
    (λ i. none-past number_of (is_place (FromFront i)) i (other_front i) values) in
    let back = words-exist bound (λ i. list_any (is_place (FromBack i)) values)
    (λ i. none-past number_of (is_place (FromBack i)) i (other_back i) values) in
    (record { front = front.0; back = back.0 }, holds front.0 back.0 front.1 back.1)
  where
    holds : (front back : List ℕ) →
        ((i : ℕ) → has_number front i ≡ list_any (is_place (FromFront i)) values) →
        ((i : ℕ) → has_number back i ≡ list_any (is_place (FromBack i)) values) →
        (p : Place) → has_place {words = words} (record { front = front; back = back }) p ≡ list_any (is_place p) values
    holds front back one other (FromFront n) = one n
    holds front back one other (FromBack n) = other n

-- ---- sets of months

-- a month with a smaller number is another one
other_month : (leap : Bool) (i : ℕ) (m : MonthParts) → m.number < i →
    is_month (record { number = i; is_leap = leap }) m ≡ false
other_month leap i m less = by_leap leap m.is_leap
  where
    by_leap : (b c : Bool) → nat_eq (2 * i + (if b then 1 else 0)) (2 * m.number + (if c then 1 else 0)) ≡ false
    by_leap true true = grind (arith, nat_tests, less)
    by_leap true false = grind (arith, nat_tests, less)
    by_leap false true = grind (arith, nat_tests, less)
    by_leap false false = grind (arith, nat_tests, less)

-- there is a word that has the months of a list that are leap months, or those that aren't
some_months : (values : List MonthParts) (leap : Bool) →
    (word : ℕ) × ((i : ℕ) → has_bit word i ≡ list_any (is_month (record { number = i; is_leap = leap })) values)
some_months values leap =
    bits-exist (bound_of (λ m. m.number) values)
    (λ i. list_any (is_month (record { number = i; is_leap = leap })) values)
    (λ i. none-past (λ m. m.number) (is_month (record { number = i; is_leap = leap })) i (other_month leap i) values)

-- there is a set that has the months of a list and no other
pub months-exist : (values : List MonthParts) → (set : MonthSet) × HasValues has_month is_month set values
months-exist values =
    let regular = some_months values false in
    let leap = some_months values true in
    (record { regular = regular.0; leap = leap.0 }, λ m. holds regular.0 leap.0 regular.1 leap.1 m.number m.is_leap)
  where
    holds : (regular leap : ℕ) →
        ((i : ℕ) → has_bit regular i ≡ list_any (is_month (record { number = i; is_leap = false })) values) →
        ((i : ℕ) → has_bit leap i ≡ list_any (is_month (record { number = i; is_leap = true })) values) →
        (n : ℕ) (b : Bool) → has_month (record { regular = regular; leap = leap }) (record { number = n; is_leap = b })
        ≡ list_any (is_month (record { number = n; is_leap = b })) values
    holds regular leap one other n false = one n
    holds regular leap one other n true = other n

-- ---- sets of weekdays

-- whether a weekday is the one in a place from Sunday on, with this ordinal or without one
abbrev is_at : ℕ → Option Place → WeekdayPlace → Bool
is_at day ordinal w = nat_eq day (days_since_sunday w.day) && is_ordinal ordinal w.ordinal

-- the number of an ordinal, and 0 where it is missing
abbrev ordinal_number : Option Place → ℕ
ordinal_number None = 0
ordinal_number (Some p) = number_of p

-- a week has seven days
day_below : (day : Weekday) → days_since_sunday day < 7
day_below Sunday = omega arith
day_below Monday = omega arith
day_below Tuesday = omega arith
day_below Wednesday = omega arith
day_below Thursday = omega arith
day_below Friday = omega arith
day_below Saturday = omega arith

-- no weekday is in a place past the seventh
none_there : (day : ℕ) (o : Option Place) (w : WeekdayPlace) → 7 ≤ day → is_at day o w ≡ false
none_there day o w past =
    and_left (nat_eq day (days_since_sunday w.day)) (is_ordinal o w.ordinal)
    (not_smaller (days_since_sunday w.day) day (omega (arith, past, day_below w.day)))

-- so none of a list is there
none_of : (values : List WeekdayPlace) (day : ℕ) (o : Option Place) → 7 ≤ day → list_any (is_at day o) values ≡ false
none_of [] day o past = refl
none_of (w ∷ values) day o past =
    or_from (is_at day o w) (list_any (is_at day o) values) (none_there day o w past) (none_of values day o past)

-- an ordinal with a smaller number is another one, from the front
ordinal_front : (i : ℕ) (o : Option Place) → ordinal_number o < i → is_ordinal (Some (FromFront i)) o ≡ false
ordinal_front i None less = refl
ordinal_front i (Some p) less = other_front i p less

-- and from the back
ordinal_back : (i : ℕ) (o : Option Place) → ordinal_number o < i → is_ordinal (Some (FromBack i)) o ≡ false
ordinal_back i None less = refl
ordinal_back i (Some p) less = other_back i p less

module _ (values : List WeekdayPlace) where
  -- what is asked of a place in the row of days that are meant without an ordinal
  abbrev IsEvery : ℕ → Bool → Type 0
  IsEvery day b = b ≡ list_any (is_at day None) values

  -- what is asked of a word of ordinals, which are counted from the one end or the other
  abbrev IsOrdinals : (ℕ → Place) → ℕ → ℕ → Type 0
  IsOrdinals place day word = (i : ℕ) → has_bit word i ≡ list_any (is_at day (Some (place i))) values

  -- there is such a row
  every-exists : (row : List Bool) × ((day : ℕ) → IsEvery day (get_or row day false))
  every-exists =
      row-exists 7 IsEvery false (λ day. (list_any (is_at day None) values, refl))
      (λ day past. sym (none_of values day None past))

  -- there is a word of ordinals for each of the seven days
  ordinals-exist : (place : ℕ → Place) →
      ((i : ℕ) (o : Option Place) → ordinal_number o < i → is_ordinal (Some (place i)) o ≡ false) →
      (row : List ℕ) × ((day : ℕ) → IsOrdinals place day (get_or row day 0))
  ordinals-exist place apart = row-exists 7 (IsOrdinals place) 0 word none
    where
      word : (day : ℕ) → (word : ℕ) × IsOrdinals place day word
      word day =
          bits-exist (bound_of (λ w. ordinal_number w.ordinal) values)
          (λ i. list_any (is_at day (Some (place i))) values)
          (λ i. none-past (λ w. ordinal_number w.ordinal) (is_at day (Some (place i))) i
          (λ w less. and_right (nat_eq day (days_since_sunday w.day)) (is_ordinal (Some (place i)) w.ordinal)
          (apart i w.ordinal less)) values)

      none : (day : ℕ) → 7 ≤ day → IsOrdinals place day 0
      none day past i = ap (λ d. d == 1) (bit_at-zero i) ∙ sym (none_of values day (Some (place i)) past)

  -- there is a set that has the weekdays of a list and no other
  pub weekdays-exist : (set : WeekdayPlaces) × HasValues has_weekday is_weekday_place set values
  weekdays-exist =
      let front = ordinals-exist FromFront ordinal_front in
      let back = ordinals-exist FromBack ordinal_back in (
        record { every = every-exists.0; front = front.0; back = back.0 },
        λ w. holds every-exists.0 front.0 back.0 every-exists.1 front.1 back.1 (days_since_sunday w.day) w.ordinal,
      )
    where
      holds : (every : List Bool) (front back : List ℕ) →
          ((day : ℕ) → IsEvery day (get_or every day false)) →
          ((day : ℕ) → IsOrdinals FromFront day (get_or front day 0)) →
          ((day : ℕ) → IsOrdinals FromBack day (get_or back day 0)) →
          (day : ℕ) (o : Option Place) →
          has_ordinal (record { every = every; front = front; back = back }) day o ≡ list_any (is_at day o) values
      holds every front back all one other day None = all day
      holds every front back all one other day (Some (FromFront n)) = one day n
      holds every front back all one other day (Some (FromBack n)) = other day n
