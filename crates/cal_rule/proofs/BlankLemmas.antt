-- Words without a bit.
use Rattle.std.proofs.Common.{◌≡◌, ◌↔◌, ℕ, zero, suc, ◌+◌, ◌*◌, ◌/◌, ◌%◌, ◌^◌, ◌<◌, ◌==◌, ◌&&◌, IsTrue, if◌then◌else◌, Bool, true, false, not, Option, Some, None, List, [], ◌∷◌, length, get_or, refl, sym, ap, subst, arith}
use mathlib.Core.Logic.{⊎_elim}
use Rattle.std.specs.Int.{bit_at}
use Rattle.std.specs.List.{list_all}
use Rattle.std.proofs.lemmas.Bool.{and_parts, cases_lt, eqb-true}
use Rattle.std.proofs.lemmas.Bool.Decides.{nat_tests}
use Rattle.std.proofs.lemmas.List.{get_or_past}
use Rattle.std.proofs.lemmas.Nat.Bits.{bit_at-lt, bit_at-zero, same_from_bits_below}
use Rattle.cal_types.specs.Month.{MonthParts}
use Rattle.cal_types.specs.Weekday.{days_since_sunday}
use Rattle.cal_types.specs.declared.weekday.Weekday.{Weekday}
use Rattle.cal_types.specs.declared.weekday.Weekday.TheVariants.{Monday, Tuesday, Wednesday, Thursday, Friday, Saturday, Sunday}
use Rattle.cal_rule.specs.Sets.{has_bit, has_month, has_number, has_place, has_weekday}
use Rattle.cal_rule.specs.declared.month_set.MonthSet.{MonthSet}
use Rattle.cal_rule.specs.declared.place_set.Place.{Place}
use Rattle.cal_rule.specs.declared.place_set.Place.TheVariants.{FromFront, FromBack}
use Rattle.cal_rule.specs.declared.place_set.PlaceSet.{PlaceSet}
use Rattle.cal_rule.specs.declared.weekday_places.WeekdayPlace.{WeekdayPlace}
use Rattle.cal_rule.specs.declared.weekday_places.WeekdayPlaces.{WeekdayPlaces}

no_one : (b : ℕ) → b < 2 → (b == 1) ≡ false → b ≡ 0
no_one b small other = grind (arith, nat_tests)

zero-bit : (i : ℕ) → has_bit 0 i ≡ false
zero-bit i = rw (bit_at-zero i) refl

zero-of_bits : (word : ℕ) → word < 2 ^ 64 → ((i : ℕ) → i < 64 → has_bit word i ≡ false) → word ≡ 0
zero-of_bits word within none =
    same_from_bits_below 64 word 0 within (omega arith)
    (λ i low. rw (bit_at-zero i) (no_one (bit_at word i) (bit_at-lt word i) (none i low)))

pub no_bit : (word : ℕ) → word < 2 ^ 64 → IsTrue (word == 0) ↔ ((i : ℕ) → has_bit word i ≡ false)
no_bit word within = (
  λ is i. rw (eqb-true word 0 is) (zero-bit i),
  λ none. rw (zero-of_bits word within (λ i low. none i)) refl,
)

all-zero : (words : List ℕ) (p : ℕ) → list_all (λ w. w == 0) words ≡ true → get_or words p 0 ≡ 0
all-zero [] p all = refl
all-zero (w ∷ words) zero all = eqb-true w 0 (and_parts (w == 0) (list_all (λ v. v == 0) words) all).0
all-zero (w ∷ words) (suc p) all = all-zero words p (and_parts (w == 0) (list_all (λ v. v == 0) words) all).1

zero-all : (words : List ℕ) → ((p : ℕ) → p < length words → get_or words p 0 ≡ 0) → list_all (λ w. w == 0) words ≡ true
zero-all [] each = refl
zero-all (w ∷ words) each =
    rw (each zero (omega arith), zero-all words (λ p low. each (suc p) (omega (arith, low)))) refl

at-place : (p i : ℕ) → i < 64 → (64 * p + i) / 64 ≡ p
at-place p i low = omega (arith, low)

at-bit : (p i : ℕ) → i < 64 → (64 * p + i) % 64 ≡ i
at-bit p i low = omega (arith, low)

pub no_number : (words : List ℕ) → ((p : ℕ) → get_or words p 0 < 2 ^ 64) →
    IsTrue (list_all (λ w. w == 0) words) ↔ ((i : ℕ) → has_number words i ≡ false)
no_number words within = (
  λ all i. rw (all-zero words (i / 64) all) (zero-bit (i % 64)),
  λ none. zero-all words (λ p low. zero-of_bits (get_or words p 0) (within p)
      (λ i small. rw (at-place p i small, at-bit p i small) at (none (64 * p + i)))),
)

-- a set of places without a number at either end
pub no_place : {n : ℕ} (set : PlaceSet n) (front back : Bool) →
    IsTrue front ↔ ((i : ℕ) → has_number set.front i ≡ false) →
    IsTrue back ↔ ((i : ℕ) → has_number set.back i ≡ false) →
    IsTrue (front && back) ↔ ((place : Place) → has_place set place ≡ false)
no_place set front back f b = (
  λ is. let parts = and_parts front back is in by_place (f.0 parts.0) (b.0 parts.1),
  λ none. rw (f.1 (λ i. none (FromFront i)), b.1 (λ i. none (FromBack i))) refl,
)
  where
    by_place : ((i : ℕ) → has_number set.front i ≡ false) → ((i : ℕ) → has_number set.back i ≡ false) →
        (place : Place) → has_place set place ≡ false
    by_place fronts backs (FromFront i) = fronts i
    by_place fronts backs (FromBack i) = backs i

-- a set of months without a regular one or a leap month
pub no_month : (set : MonthSet) (regular leap : Bool) → IsTrue regular ↔ ((i : ℕ) → has_bit set.regular i ≡ false) →
    IsTrue leap ↔ ((i : ℕ) → has_bit set.leap i ≡ false) →
    IsTrue (regular && leap) ↔ ((m : MonthParts) → has_month set m ≡ false)
no_month set regular leap r l = (
  λ is m. let parts = and_parts regular leap is in by_leap (r.0 parts.0) (l.0 parts.1) m.number m.is_leap,
  λ none. rw (r.1 (λ i. none (month i false)), l.1 (λ i. none (month i true))) refl,
)
  where
    month : ℕ → Bool → MonthParts
    month i is_leap = record { number = i; is_leap = is_leap }

    by_leap : ((i : ℕ) → has_bit set.regular i ≡ false) → ((i : ℕ) → has_bit set.leap i ≡ false) →
        (i : ℕ) (is_leap : Bool) → has_bit (if is_leap then set.leap else set.regular) i ≡ false
    by_leap regulars leaps i true = leaps i
    by_leap regulars leaps i false = regulars i

-- words without a bit
pub no_bits : (words : List ℕ) → ((p : ℕ) → get_or words p 0 < 2 ^ 64) →
    IsTrue (list_all (λ w. w == 0) words) ↔ ((p i : ℕ) → has_bit (get_or words p 0) i ≡ false)
no_bits words within = (
  λ all p i. rw (all-zero words p all) (zero-bit i),
  λ none. zero-all words (λ p low. zero-of_bits (get_or words p 0) (within p) (λ i small. none p i)),
)

not_one : (b : Bool) → not b ≡ true → b ≡ false
not_one true e = sym e
not_one false e = refl

all-none : (answers : List Bool) (p : ℕ) → list_all (λ a. not a) answers ≡ true → get_or answers p false ≡ false
all-none [] p all = refl
all-none (a ∷ answers) zero all = not_one a (and_parts (not a) (list_all (λ b. not b) answers) all).0
all-none (a ∷ answers) (suc p) all = all-none answers p (and_parts (not a) (list_all (λ b. not b) answers) all).1

none-all : (answers : List Bool) → ((p : ℕ) → p < length answers → get_or answers p false ≡ false) →
    list_all (λ a. not a) answers ≡ true
none-all [] each = refl
none-all (a ∷ answers) each =
    rw (each zero (omega arith), none-all answers (λ p low. each (suc p) (omega (arith, low)))) refl

abbrev on_day : Weekday → Option Place → WeekdayPlace
on_day day ordinal = record { day = day; ordinal = ordinal }

-- the weekday so many days after Sunday
day_at : (p : ℕ) → p < 7 → (day : Weekday) × (days_since_sunday day ≡ p)
day_at zero low = (Sunday, refl)
day_at (suc zero) low = (Monday, refl)
day_at (suc (suc zero)) low = (Tuesday, refl)
day_at (suc (suc (suc zero))) low = (Wednesday, refl)
day_at (suc (suc (suc (suc zero)))) low = (Thursday, refl)
day_at (suc (suc (suc (suc (suc zero))))) low = (Friday, refl)
day_at (suc (suc (suc (suc (suc (suc zero)))))) low = (Saturday, refl)
day_at (suc (suc (suc (suc (suc (suc (suc p))))))) low = absurd (omega (arith, low))

-- a set of weekdays without one, with an ordinal or without
pub no_weekday : (set : WeekdayPlaces) (front back : Bool) → length set.every ≡ 7 → length set.front ≡ 7 →
    length set.back ≡ 7 →
    IsTrue front ↔ ((p i : ℕ) → has_bit (get_or set.front p 0) i ≡ false) →
    IsTrue back ↔ ((p i : ℕ) → has_bit (get_or set.back p 0) i ≡ false) →
    IsTrue ((list_all (λ a. not a) set.every && front) && back)
    ↔ ((w : WeekdayPlace) → has_weekday set w ≡ false)
no_weekday set front back every7 front7 back7 f b = (
  λ is. let outer = and_parts (list_all (λ a. not a) set.every && front) back is in
      let inner = and_parts (list_all (λ a. not a) set.every) front outer.0 in
      λ w. by_ordinal inner.0 (f.0 inner.1) (b.0 outer.1) w.day w.ordinal,
  λ none. rw (none-all set.every (λ p low. each_every none p (omega (arith, low, every7))), f.1 (each_front none), b.1 (each_back none)) refl,
)
  where
    by_ordinal : list_all (λ a. not a) set.every ≡ true → ((p i : ℕ) → has_bit (get_or set.front p 0) i ≡ false) →
        ((p i : ℕ) → has_bit (get_or set.back p 0) i ≡ false) → (day : Weekday) (ordinal : Option Place) →
        has_weekday set (on_day day ordinal) ≡ false
    by_ordinal all fronts backs day None = all-none set.every (days_since_sunday day) all
    by_ordinal all fronts backs day (Some (FromFront n)) = fronts (days_since_sunday day) n
    by_ordinal all fronts backs day (Some (FromBack n)) = backs (days_since_sunday day) n

    each_every : ((w : WeekdayPlace) → has_weekday set w ≡ false) → (p : ℕ) → p < 7 → get_or set.every p false ≡ false
    each_every none p low =
        let day = day_at p low in
        subst (λ (q : ℕ). get_or set.every q false ≡ false) day.1 (none (on_day day.0 None))

    each_front : ((w : WeekdayPlace) → has_weekday set w ≡ false) → (p i : ℕ) → has_bit (get_or set.front p 0) i ≡ false
    each_front none p i = ⊎_elim
        (λ low. let day = day_at p low in
        subst (λ (q : ℕ). has_bit (get_or set.front q 0) i ≡ false) day.1 (none (on_day day.0 (Some (FromFront i)))))
        (λ high. rw (get_or_past set.front p 0 (omega (arith, high, front7))) (zero-bit i)) (cases_lt p 7)

    each_back : ((w : WeekdayPlace) → has_weekday set w ≡ false) → (p i : ℕ) → has_bit (get_or set.back p 0) i ≡ false
    each_back none p i = ⊎_elim
        (λ low. let day = day_at p low in
        subst (λ (q : ℕ). has_bit (get_or set.back q 0) i ≡ false) day.1 (none (on_day day.0 (Some (FromBack i)))))
        (λ high. rw (get_or_past set.back p 0 (omega (arith, high, back7))) (zero-bit i)) (cases_lt p 7)

-- a set of weekdays without an ordinal
pub no_ordinal : (set : WeekdayPlaces) (front back : Bool) → length set.front ≡ 7 → length set.back ≡ 7 →
    IsTrue front ↔ ((p i : ℕ) → has_bit (get_or set.front p 0) i ≡ false) →
    IsTrue back ↔ ((p i : ℕ) → has_bit (get_or set.back p 0) i ≡ false) →
    IsTrue (front && back)
    ↔ ((day : Weekday) (place : Place) → has_weekday set (on_day day (Some place)) ≡ false)
no_ordinal set front back front7 back7 f b = (
  λ is. let parts = and_parts front back is in by_place (f.0 parts.0) (b.0 parts.1),
  λ none. rw (f.1 (each_front none), b.1 (each_back none)) refl,
)
  where
    by_place : ((p i : ℕ) → has_bit (get_or set.front p 0) i ≡ false) → ((p i : ℕ) → has_bit (get_or set.back p 0) i ≡ false) →
        (day : Weekday) (place : Place) → has_weekday set (on_day day (Some place)) ≡ false
    by_place fronts backs day (FromFront n) = fronts (days_since_sunday day) n
    by_place fronts backs day (FromBack n) = backs (days_since_sunday day) n

    each_front : ((day : Weekday) (place : Place) → has_weekday set (on_day day (Some place)) ≡ false) →
        (p i : ℕ) → has_bit (get_or set.front p 0) i ≡ false
    each_front none p i = ⊎_elim
        (λ low. let day = day_at p low in
        subst (λ (q : ℕ). has_bit (get_or set.front q 0) i ≡ false) day.1 (none day.0 (FromFront i)))
        (λ high. rw (get_or_past set.front p 0 (omega (arith, high, front7))) (zero-bit i)) (cases_lt p 7)

    each_back : ((day : Weekday) (place : Place) → has_weekday set (on_day day (Some place)) ≡ false) →
        (p i : ℕ) → has_bit (get_or set.back p 0) i ≡ false
    each_back none p i = ⊎_elim
        (λ low. let day = day_at p low in
        subst (λ (q : ℕ). has_bit (get_or set.back q 0) i ≡ false) day.1 (none day.0 (FromBack i)))
        (λ high. rw (get_or_past set.back p 0 (omega (arith, high, back7))) (zero-bit i)) (cases_lt p 7)
