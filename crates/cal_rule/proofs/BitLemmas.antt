-- Bits of words, and of words in a row.
use Rattle.std.proofs.Common.{◌≡◌, ℕ, ◌*◌, ◌%◌, ◌^◌, ◌<◌, ◌≤◌, ◌==◌, ◌||◌, ◌&&◌, Option, Some, None, Bool, true, false, nat_eq, List, length, get_or, set, w64, refl, ap, ◌∙◌}
use Rattle.std.specs.Int.RustNames.{bit_or}
use Rattle.std.proofs.lemmas.Bool.{eqb-false, eqb-true}
use Rattle.std.proofs.lemmas.Nat.Bits.{bit_at_above, bit_at_set_same, bit_at_set_other}
use Rattle.std.proofs.lemmas.List.{get_or-set_other, get_or-set_same}
use Rattle.cal_types.specs.Weekday.{days_since_sunday, is_weekday}
use Rattle.cal_types.specs.declared.weekday.Weekday.{Weekday}
use Rattle.cal_rule.specs.Sets.{has_bit, has_ordinal, has_weekday, is_ordinal, is_weekday_place}
use Rattle.cal_rule.specs.declared.place_set.Place.{Place}
use Rattle.cal_rule.specs.declared.place_set.Place.TheVariants.{FromFront, FromBack}
use Rattle.cal_rule.specs.declared.weekday_places.WeekdayPlace.{WeekdayPlace}
use Rattle.cal_rule.specs.declared.weekday_places.WeekdayPlaces.{WeekdayPlaces}

-- a word with one more bit
pub bit-set : (word bit : ℕ) → bit < 64 → (i : ℕ) → has_bit (bit_or word (1 * 2 ^ bit % 2 ^ 64)) i ≡ (i == bit || has_bit word i)
bit-set word bit within i = by_test (i == bit) refl
  where
    by_test : (b : Bool) → nat_eq i bit ≡ b → has_bit (bit_or word (1 * 2 ^ bit % 2 ^ 64)) i ≡ (b || has_bit word i)
    by_test true same = rw (eqb-true i bit same, bit_at_set_same w64 word bit within) refl
    by_test false apart = rw (bit_at_set_other w64 word bit within i (eqb-false i bit apart)) refl

-- no number below 2^64 has a bit from 64 on
pub no-bit : (word i : ℕ) → word < 2 ^ 64 → 64 ≤ i → has_bit word i ≡ false
no-bit word i within high =
    rw (bit_at_above word 64 i within high) refl

-- one more bit in one of some words
pub row-set : (words : List ℕ) (place bit word : ℕ) → place < length words →
    ((k : ℕ) → has_bit word k ≡ (k == bit || has_bit (get_or words place 0) k)) → (j k : ℕ) →
    has_bit (get_or (set words place word) j 0) k ≡ ((j == place && k == bit) || has_bit (get_or words j 0) k)
row-set words place bit word within more j k = by_test (j == place) refl
  where
    by_test : (b : Bool) → nat_eq j place ≡ b →
        has_bit (get_or (set words place word) j 0) k ≡ ((b && k == bit) || has_bit (get_or words j 0) k)
    by_test true same =
        rw (eqb-true j place same, get_or-set_same words place word 0 within) (more k)
    by_test false apart = rw (get_or-set_other words place j word 0 (eqb-false j place apart)) refl

or_nothing : (b c : Bool) → c ≡ ((b && false) || c)
or_nothing true c = refl
or_nothing false c = refl

-- a weekday with an ordinal from the front is added
pub front-set : (set' : WeekdayPlaces) (place n word : ℕ) (w : WeekdayPlace) (day : Weekday) → place ≡ days_since_sunday day →
    place < length set'.front → ((k : ℕ) → has_bit word k ≡ (k == n || has_bit (get_or set'.front place 0) k)) →
    has_ordinal (record { every = set'.every; front = set set'.front place word; back = set'.back }) (days_since_sunday w.day) w.ordinal
    ≡ (is_weekday_place w (record { day = day; ordinal = Some (FromFront n) }) || has_weekday set' w)
front-set set' place n word w day is within more = by_ordinal w.ordinal
  where
    by_ordinal : (o : Option Place) →
        has_ordinal (record { every = set'.every; front = set set'.front place word; back = set'.back }) (days_since_sunday w.day) o
        ≡ ((is_weekday w.day day && is_ordinal o (Some (FromFront n))) || has_ordinal set' (days_since_sunday w.day) o)
    by_ordinal None = or_nothing _ _
    by_ordinal (Some (FromFront k)) = row-set set'.front place n word within more (days_since_sunday w.day) k ∙ ap (λ p. (nat_eq (days_since_sunday w.day) p && k == n) || has_bit (get_or set'.front (days_since_sunday w.day) 0) k) is
    by_ordinal (Some (FromBack k)) = or_nothing _ _

-- and one from the back
pub back-set : (set' : WeekdayPlaces) (place n word : ℕ) (w : WeekdayPlace) (day : Weekday) → place ≡ days_since_sunday day →
    place < length set'.back → ((k : ℕ) → has_bit word k ≡ (k == n || has_bit (get_or set'.back place 0) k)) →
    has_ordinal (record { every = set'.every; front = set'.front; back = set set'.back place word }) (days_since_sunday w.day) w.ordinal
    ≡ (is_weekday_place w (record { day = day; ordinal = Some (FromBack n) }) || has_weekday set' w)
back-set set' place n word w day is within more = by_ordinal w.ordinal
  where
    by_ordinal : (o : Option Place) →
        has_ordinal (record { every = set'.every; front = set'.front; back = set set'.back place word }) (days_since_sunday w.day) o
        ≡ ((is_weekday w.day day && is_ordinal o (Some (FromBack n))) || has_ordinal set' (days_since_sunday w.day) o)
    by_ordinal None = or_nothing _ _
    by_ordinal (Some (FromFront k)) = or_nothing _ _
    by_ordinal (Some (FromBack k)) = row-set set'.back place n word within more (days_since_sunday w.day) k ∙ ap (λ p. (nat_eq (days_since_sunday w.day) p && k == n) || has_bit (get_or set'.back (days_since_sunday w.day) 0) k) is
