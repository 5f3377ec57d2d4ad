-- Sets as bits: whether some value in a set has what is decided of each value, and whether a set is empty.
use Rattle.std.proofs.Common.{◌≡◌, ℕ, zero, suc, ◌*◌, ◌^◌, ◌<◌, ◌≤◌, ◌==◌, ◌⊎◌, inl, inr, Bool, true, false, List, length, get_or, Option, Some, None, refl, ap, arith, pow-suc}
use Rattle.std.specs.Prelude.{IsTrue, ⊤}
use Rattle.std.proofs.lemmas.Nat.Bits.{bit_at_above}
use Rattle.cal_days.proofs.Signed.{by_lt}
use Rattle.cal_types.specs.Month.{MonthParts}
use Rattle.cal_types.specs.Weekday.{days_since_sunday}
use Rattle.cal_types.specs.declared.weekday.Weekday.{Weekday}
use Rattle.cal_types.specs.declared.weekday.Weekday.TheVariants.{Monday, Tuesday, Wednesday, Thursday, Friday, Saturday, Sunday}
use Rattle.cal_rule.specs.Sets.{has_bit, has_month, has_number, has_ordinal, has_place, has_weekday}
use Rattle.cal_rule.specs.declared.month_set.MonthSet.{MonthSet}
use Rattle.cal_rule.specs.declared.place_set.Place.{Place}
use Rattle.cal_rule.specs.declared.place_set.Place.TheVariants.{FromFront, FromBack}
use Rattle.cal_rule.specs.declared.place_set.PlaceSet.{PlaceSet}
use Rattle.cal_rule.specs.declared.weekday_places.WeekdayPlace.{WeekdayPlace}
use Rattle.cal_rule.specs.declared.weekday_places.WeekdayPlaces.{WeekdayPlaces}
use Rattle.recurrence_sets.proofs.WordLemmas.{number-past}
use Rattle.rule_lists.proofs.Deciding.{both, either, like, some_number, truth}

-- ---- values of a set

-- none of some values passes a test
none_pass : {A : Type 0} (test : A → Bool) → Dec ((a : A) × IsTrue (test a) × ⊤) → Dec ((a : A) → test a ≡ false)
none_pass test (yes (a, is, _)) = no (λ none. never_both (test a) is (none a))
  where
    never_both : (b : Bool) → IsTrue b → b ≡ false → ⊥
    never_both true _ e = cc
    never_both false e _ = cc
none_pass {A} test (no never) = yes (λ a. by_test a (test a) refl)
  where
    by_test : (a : A) (b : Bool) → test a ≡ b → b ≡ false
    by_test a true is = absurd (never (a, is, tt))
    by_test a false _ = refl

-- two things that hold of a value, as one or apart
flat : {A : Type 0} {Q P : A → Type 0} → Dec ((a : A) × (Q a × P a)) → Dec ((a : A) × Q a × P a)
flat = like (λ (a, q). (a, q.0, q.1)) (λ (a, q, p). (a, (q, p)))

-- a number that passes a test, where none from a bound on passes it
some_passing : (test : ℕ → Bool) (most : ℕ) → ((i : ℕ) → most ≤ i → test i ≡ false) →
    {P : ℕ → Type 0} → ((i : ℕ) → Dec (P i)) → Dec ((i : ℕ) × (IsTrue (test i) × P i))
some_passing test most past {P} decide =
    some_number {P = λ i. IsTrue (test i) × P i} (λ i. both (truth (test i)) (decide i)) most
    (λ i p. by_lt {P = i < most} i most (λ lt. lt) (λ le. absurd (never i (past i le) p.0)))
  where
    never : (i : ℕ) → test i ≡ false → IsTrue (test i) → ⊥
    never i none is = cc

-- ---- values by their cases

-- a weekday: either this one, or what is found if it isn't
or_later : {P : Weekday → Type 0} (day : Weekday) → Dec (P day) → (¬ P day → Dec ((d : Weekday) × P d)) →
    Dec ((d : Weekday) × P d)
or_later day (yes p) later = yes (day, p)
or_later day (no never) later = later never

-- one of the seven weekdays
some_day : {P : Weekday → Type 0} → ((d : Weekday) → Dec (P d)) → Dec ((d : Weekday) × P d)
some_day {P} decide =
    or_later Sunday (decide Sunday)
    (λ a. or_later Monday (decide Monday)
    (λ b. or_later Tuesday (decide Tuesday)
    (λ c. or_later Wednesday (decide Wednesday)
    (λ d. or_later Thursday (decide Thursday)
    (λ e. or_later Friday (decide Friday)
    (λ f. or_later Saturday (decide Saturday)
    (λ g. no (λ (day, p). none a b c d e f g day p))))))))
  where
    none : ¬ P Sunday → ¬ P Monday → ¬ P Tuesday → ¬ P Wednesday → ¬ P Thursday → ¬ P Friday → ¬ P Saturday →
        (day : Weekday) → P day → ⊥
    none a b c d e f g Sunday p = a p
    none a b c d e f g Monday p = b p
    none a b c d e f g Tuesday p = c p
    none a b c d e f g Wednesday p = d p
    none a b c d e f g Thursday p = e p
    none a b c d e f g Friday p = f p
    none a b c d e f g Saturday p = g p

module _ (P : MonthParts → Type 0) where
  -- a month of some number that has what is asked, a leap month or not
  abbrev Numbered : Bool → Type 0
  Numbered leap = (n : ℕ) × P (record { number = n; is_leap = leap })

  -- the month of either
  to_month : Numbered false ⊎ Numbered true → (m : MonthParts) × P m
  to_month (inl (n, p)) = (record { number = n; is_leap = false }, p)
  to_month (inr (n, p)) = (record { number = n; is_leap = true }, p)

  -- which of both a month is
  from_month : (n : ℕ) (leap : Bool) → P (record { number = n; is_leap = leap }) → Numbered false ⊎ Numbered true
  from_month n false p = inl (n, p)
  from_month n true p = inr (n, p)

  -- a month: a regular one or a leap month
  some_month_of : Dec (Numbered false) → Dec (Numbered true) → Dec ((m : MonthParts) × P m)
  some_month_of regular leap = like to_month (λ (m, p). from_month m.number m.is_leap p) (either regular leap)

-- a place: one from the front or one from the back
some_place_of : {P : Place → Type 0} → Dec ((n : ℕ) × P (FromFront n)) → Dec ((n : ℕ) × P (FromBack n)) →
    Dec ((p : Place) × P p)
some_place_of {P} front back = like to from (either front back)
  where
    to : ((n : ℕ) × P (FromFront n)) ⊎ ((n : ℕ) × P (FromBack n)) → (p : Place) × P p
    to (inl (n, p)) = (FromFront n, p)
    to (inr (n, p)) = (FromBack n, p)

    from : (p : Place) × P p → ((n : ℕ) × P (FromFront n)) ⊎ ((n : ℕ) × P (FromBack n))
    from (FromFront n, p) = inl (n, p)
    from (FromBack n, p) = inr (n, p)

-- an ordinal: none, or a place
some_ordinal_of : {P : Option Place → Type 0} → Dec (P None) → Dec ((p : Place) × P (Some p)) →
    Dec ((o : Option Place) × P o)
some_ordinal_of {P} none some = like to from (either none some)
  where
    to : P None ⊎ ((p : Place) × P (Some p)) → (o : Option Place) × P o
    to (inl p) = (None, p)
    to (inr (place, p)) = (Some place, p)

    from : (o : Option Place) × P o → P None ⊎ ((p : Place) × P (Some p))
    from (None, p) = inl p
    from (Some place, p) = inr (place, p)

-- a weekday with an ordinal or without one
some_weekday_of : {P : WeekdayPlace → Type 0} →
    Dec ((d : Weekday) × ((o : Option Place) × P (record { day = d; ordinal = o }))) → Dec ((w : WeekdayPlace) × P w)
some_weekday_of = like (λ (d, (o, p)). (record { day = d; ordinal = o }, p)) (λ (w, p). (w.day, (w.ordinal, p)))

-- ---- bits

-- a power of two is larger than its exponent
below_power : (n : ℕ) → n < 2 ^ n
below_power zero = omega arith
below_power (suc n) = omega (arith, below_power n, pow-suc 2 n)

-- a word has no bit from its own value on
no_bit_above : (word i : ℕ) → word ≤ i → has_bit word i ≡ false
no_bit_above word i past = ap (λ b. b == 1) (bit_at_above word word i (below_power word) past)

-- a bit of a word
some_bit : (word : ℕ) {P : ℕ → Type 0} → ((i : ℕ) → Dec (P i)) → Dec ((i : ℕ) × (IsTrue (has_bit word i) × P i))
some_bit word = some_passing (has_bit word) word (no_bit_above word)

-- a number in words
some_in_words : (words : List ℕ) {P : ℕ → Type 0} → ((i : ℕ) → Dec (P i)) →
    Dec ((i : ℕ) × (IsTrue (has_number words i) × P i))
some_in_words words = some_passing (has_number words) (64 * length words) (number-past words)

-- an ordinal that a set has with a weekday
some_ordinal : (set : WeekdayPlaces) (day : ℕ) {P : Option Place → Type 0} → ((o : Option Place) → Dec (P o)) →
    Dec ((o : Option Place) × (IsTrue (has_ordinal set day o) × P o))
some_ordinal set day {P} decide =
    some_ordinal_of {P = λ o. IsTrue (has_ordinal set day o) × P o}
    (both (truth (get_or set.every day false)) (decide None))
    (some_place_of {P = λ p. IsTrue (has_ordinal set day (Some p)) × P (Some p)}
    (some_bit (get_or set.front day 0) (λ n. decide (Some (FromFront n))))
    (some_bit (get_or set.back day 0) (λ n. decide (Some (FromBack n)))))

-- ---- the sets of a rule

-- whether a place in a set has what is decided of each place
pub some_place : {words : ℕ} (set : PlaceSet words) {P : Place → Type 0} → ((p : Place) → Dec (P p)) →
    Dec ((p : Place) × IsTrue (has_place set p) × P p)
some_place set {P} decide =
    flat (some_place_of {P = λ p. IsTrue (has_place set p) × P p}
    (some_in_words set.front (λ n. decide (FromFront n)))
    (some_in_words set.back (λ n. decide (FromBack n))))

-- whether a set of places is empty
pub no_places : {words : ℕ} (set : PlaceSet words) → Dec ((p : Place) → has_place set p ≡ false)
no_places set = none_pass (has_place set) (some_place set (λ _. yes tt))

-- whether a month in a set has what is decided of each month
pub some_month : (set : MonthSet) {P : MonthParts → Type 0} → ((m : MonthParts) → Dec (P m)) →
    Dec ((m : MonthParts) × IsTrue (has_month set m) × P m)
some_month set {P} decide =
    flat (some_month_of (λ m. IsTrue (has_month set m) × P m)
    (some_bit set.regular (λ n. decide (record { number = n; is_leap = false })))
    (some_bit set.leap (λ n. decide (record { number = n; is_leap = true }))))

-- whether a set of months is empty
pub no_months : (set : MonthSet) → Dec ((m : MonthParts) → has_month set m ≡ false)
no_months set = none_pass (has_month set) (some_month set (λ _. yes tt))

-- whether a weekday in a set has what is decided of each weekday with an ordinal or without one
pub some_weekday : (set : WeekdayPlaces) {P : WeekdayPlace → Type 0} → ((w : WeekdayPlace) → Dec (P w)) →
    Dec ((w : WeekdayPlace) × IsTrue (has_weekday set w) × P w)
some_weekday set {P} decide =
    flat (some_weekday_of {P = λ w. IsTrue (has_weekday set w) × P w}
    (some_day (λ day. some_ordinal set (days_since_sunday day) {P = λ o. P (record { day = day; ordinal = o })}
    (λ o. decide (record { day = day; ordinal = o })))))

-- whether a set of weekdays is empty
pub no_weekdays : (set : WeekdayPlaces) → Dec ((w : WeekdayPlace) → has_weekday set w ≡ false)
no_weekdays set = none_pass (has_weekday set) (some_weekday set (λ _. yes tt))
