-- The months of the Hebrew list, place by place, and that the list is a calendar's.
use Rattle.std.proofs.Common.{◌≡◌, ℕ, ◌+◌, ◌-◌, ◌*◌, ◌<◌, ◌≤◌, inl, inr, Bool, true, false, if◌then◌else◌, IsTrue, Option, Some, refl, sym, subst, ap, ◌∙◌, arith, ℤ}
use Rattle.std.specs.Prelude.{slice_index_or, sum_by, take, length, nat_eq, nat_le, List}
use Rattle.std.specs.List.{position_from}
use Rattle.std.proofs.lemmas.Bool.Decides.{nat_tests}
use Rattle.cal_days.specs.Division.{floor_div, floor_mod}
use Rattle.cal_days.specs.Hebrew.{months_before, parts_before, moon_day, days_elapsed, hebrew_start, hebrew_leap, hebrew_year_length, IsHebrewLength}
use Rattle.cal_days.proofs.HebrewLemmas.{hebrew_start-next, hebrew_year_length-is}
use Rattle.cal_types.specs.Month.{MonthParts, month_rank}
use Rattle.cal_types.specs.declared.options.Overflow.TheVariants.{Constrain}
use Rattle.cal_types.specs.CalendarList.{Entry, no_entry, days_of, year_length, month_count, month_at, month_length, days_before, start_of_year, HasPlace, place_of, spot, first_of_two, IsLawful}
use Rattle.cal_types.proofs.ListLemmas.{start_of_year-unique}
use Rattle.cal_types.proofs.MonthCases.{by_month, by_thirteen}
use Rattle.cal_hebrew.specs.HebrewList.{hebrew_months, hebrew_list, is_hebrew_month, hebrew_stand_in}
use Rattle.cal_hebrew.specs.HebrewPlaces.{is_leap_length, place_count, place_length, days_before_place, month_of_place}

-- what holds of a year of each of the six lengths
pub by_length : (P : Bool → ℕ → Type 0) → P false 353 → P false 354 → P false 355 → P true 383 → P true 384 → P true 385 → (leap : Bool) (n : ℕ) → IsHebrewLength leap n → P leap n
by_length P a b c d e f false n (inl x) = subst (P false) (sym x) a
by_length P a b c d e f false n (inr (inl x)) = subst (P false) (sym x) b
by_length P a b c d e f false n (inr (inr x)) = subst (P false) (sym x) c
by_length P a b c d e f true n (inl x) = subst (P true) (sym x) d
by_length P a b c d e f true n (inr (inl x)) = subst (P true) (sym x) e
by_length P a b c d e f true n (inr (inr x)) = subst (P true) (sym x) f

-- the lengths of leap years are those from 383 on
length-leap : (leap : Bool) (n : ℕ) → IsHebrewLength leap n → leap ≡ is_leap_length n
length-leap = by_length (λ leap n. leap ≡ is_leap_length n) refl refl refl refl refl refl

pub hebrew_leap-length : (y : ℤ) → hebrew_leap y ≡ is_leap_length (hebrew_year_length y)
hebrew_leap-length y = length-leap (hebrew_leap y) (hebrew_year_length y) (hebrew_year_length-is y)

-- the months add up to the year's length
months-sum : (leap : Bool) (n : ℕ) → IsHebrewLength leap n → sum_by days_of (hebrew_months leap n) ≡ n
months-sum = by_length (λ leap n. sum_by days_of (hebrew_months leap n) ≡ n) refl refl refl refl refl refl

pub year_length-hebrew : (y : ℤ) → year_length hebrew_list y ≡ hebrew_year_length y
unfolding hebrew_list
year_length-hebrew y = months-sum (hebrew_leap y) (hebrew_year_length y) (hebrew_year_length-is y)

-- how many months a common year has, and a leap year
abbrev pub months_of : Bool → ℕ
months_of leap = 12 + (if leap then 1 else 0)

months-count : (leap : Bool) (n : ℕ) → length (hebrew_months leap n) ≡ months_of leap
months-count false n = refl
months-count true n = refl

pub month_count-leap : (y : ℤ) → month_count hebrew_list y ≡ months_of (hebrew_leap y)
unfolding hebrew_list
month_count-leap y = months-count (hebrew_leap y) (hebrew_year_length y)

pub month_count-hebrew : (y : ℤ) → month_count hebrew_list y ≡ place_count (hebrew_year_length y)
month_count-hebrew y = month_count-leap y ∙ ap months_of (hebrew_leap-length y)

anchor : hebrew_start hebrew_list.anchor_year ≡ hebrew_list.anchor_day
unfolding hebrew_list hebrew_start days_elapsed moon_day parts_before months_before floor_div floor_mod
anchor = refl

-- the list starts its years by the formula
pub start_of_year-hebrew : (y : ℤ) → start_of_year hebrew_list y ≡ hebrew_start y
start_of_year-hebrew y = start_of_year-unique hebrew_list hebrew_start anchor (λ z. rw (year_length-hebrew z) (hebrew_start-next z)) y

-- the entry in a place
abbrev at : Bool → ℕ → ℕ → Entry
at leap n i = slice_index_or (hebrew_months leap n) (i - 1) no_entry

-- what stands in a place, and the days before it, in closed form
record IsPlace (leap : Bool) (n i : ℕ) : Type 0 where
  month : (at leap n i).month ≡ month_of_place leap i
  days : (at leap n i).days ≡ place_length n i
  before : sum_by days_of (take (i - 1) (hebrew_months leap n)) ≡ days_before_place n i

abbrev ArePlaces : Bool → ℕ → Type 0
ArePlaces leap n = (i : ℕ) → 1 ≤ i → i ≤ months_of leap → IsPlace leap n i

places-are : (leap : Bool) (n : ℕ) → IsHebrewLength leap n → ArePlaces leap n
places-are = by_length ArePlaces
    (by_month (IsPlace false 353)
    (record { month = refl; days = refl; before = refl }) (record { month = refl; days = refl; before = refl }) (record { month = refl; days = refl; before = refl }) (record { month = refl; days = refl; before = refl })
    (record { month = refl; days = refl; before = refl }) (record { month = refl; days = refl; before = refl }) (record { month = refl; days = refl; before = refl }) (record { month = refl; days = refl; before = refl })
    (record { month = refl; days = refl; before = refl }) (record { month = refl; days = refl; before = refl }) (record { month = refl; days = refl; before = refl }) (record { month = refl; days = refl; before = refl }))
    (by_month (IsPlace false 354)
    (record { month = refl; days = refl; before = refl }) (record { month = refl; days = refl; before = refl }) (record { month = refl; days = refl; before = refl }) (record { month = refl; days = refl; before = refl })
    (record { month = refl; days = refl; before = refl }) (record { month = refl; days = refl; before = refl }) (record { month = refl; days = refl; before = refl }) (record { month = refl; days = refl; before = refl })
    (record { month = refl; days = refl; before = refl }) (record { month = refl; days = refl; before = refl }) (record { month = refl; days = refl; before = refl }) (record { month = refl; days = refl; before = refl }))
    (by_month (IsPlace false 355)
    (record { month = refl; days = refl; before = refl }) (record { month = refl; days = refl; before = refl }) (record { month = refl; days = refl; before = refl }) (record { month = refl; days = refl; before = refl })
    (record { month = refl; days = refl; before = refl }) (record { month = refl; days = refl; before = refl }) (record { month = refl; days = refl; before = refl }) (record { month = refl; days = refl; before = refl })
    (record { month = refl; days = refl; before = refl }) (record { month = refl; days = refl; before = refl }) (record { month = refl; days = refl; before = refl }) (record { month = refl; days = refl; before = refl }))
    (by_thirteen (IsPlace true 383)
    (record { month = refl; days = refl; before = refl }) (record { month = refl; days = refl; before = refl }) (record { month = refl; days = refl; before = refl }) (record { month = refl; days = refl; before = refl })
    (record { month = refl; days = refl; before = refl }) (record { month = refl; days = refl; before = refl }) (record { month = refl; days = refl; before = refl }) (record { month = refl; days = refl; before = refl })
    (record { month = refl; days = refl; before = refl }) (record { month = refl; days = refl; before = refl }) (record { month = refl; days = refl; before = refl }) (record { month = refl; days = refl; before = refl }) (record { month = refl; days = refl; before = refl }))
    (by_thirteen (IsPlace true 384)
    (record { month = refl; days = refl; before = refl }) (record { month = refl; days = refl; before = refl }) (record { month = refl; days = refl; before = refl }) (record { month = refl; days = refl; before = refl })
    (record { month = refl; days = refl; before = refl }) (record { month = refl; days = refl; before = refl }) (record { month = refl; days = refl; before = refl }) (record { month = refl; days = refl; before = refl })
    (record { month = refl; days = refl; before = refl }) (record { month = refl; days = refl; before = refl }) (record { month = refl; days = refl; before = refl }) (record { month = refl; days = refl; before = refl }) (record { month = refl; days = refl; before = refl }))
    (by_thirteen (IsPlace true 385)
    (record { month = refl; days = refl; before = refl }) (record { month = refl; days = refl; before = refl }) (record { month = refl; days = refl; before = refl }) (record { month = refl; days = refl; before = refl })
    (record { month = refl; days = refl; before = refl }) (record { month = refl; days = refl; before = refl }) (record { month = refl; days = refl; before = refl }) (record { month = refl; days = refl; before = refl })
    (record { month = refl; days = refl; before = refl }) (record { month = refl; days = refl; before = refl }) (record { month = refl; days = refl; before = refl }) (record { month = refl; days = refl; before = refl }) (record { month = refl; days = refl; before = refl }))

place-is : (y : ℤ) (i : ℕ) → HasPlace hebrew_list y i → IsPlace (hebrew_leap y) (hebrew_year_length y) i
place-is y i h = places-are (hebrew_leap y) (hebrew_year_length y) (hebrew_year_length-is y) i h.0 (omega (arith, h.1, month_count-leap y))

-- the month in a place of a year
pub month_at-hebrew : (y : ℤ) (i : ℕ) → HasPlace hebrew_list y i → month_at hebrew_list y i ≡ month_of_place (hebrew_leap y) i
unfolding hebrew_list
month_at-hebrew y i h = (place-is y i h).month

-- its days
pub month_length-hebrew : (y : ℤ) (i : ℕ) → HasPlace hebrew_list y i → month_length hebrew_list y i ≡ place_length (hebrew_year_length y) i
unfolding hebrew_list
month_length-hebrew y i h = (place-is y i h).days

-- and the days before it
pub days_before-hebrew : (y : ℤ) (i : ℕ) → HasPlace hebrew_list y i → days_before hebrew_list y i ≡ days_before_place (hebrew_year_length y) i
unfolding hebrew_list days_before
days_before-hebrew y i h = (place-is y i h).before

-- a place of a year is one from 1 to 13
pub place-small : (y : ℤ) (i : ℕ) → HasPlace hebrew_list y i → (1 ≤ i) × (i ≤ 13)
place-small y i h = (h.0, most (hebrew_leap y) (month_count-leap y)) where
  most : (leap : Bool) → month_count hebrew_list y ≡ months_of leap → i ≤ 13
  most false e = omega (arith, h.1)
  most true e = omega (arith, h.1)

pub place_length-some : (n i : ℕ) → (1 ≤ place_length n i) × (place_length n i ≤ 30)
place_length-some n i = (grind (arith, nat_tests), grind (arith, nat_tests))

-- twice the number of the month in a place, and 1 more for the leap month
abbrev rank_at : Bool → ℕ → ℕ
rank_at false i = 2 * i
rank_at true i = if nat_le i 5 then 2 * i else (if nat_eq i 6 then 11 else 2 * (i - 1))

rank-is : (leap : Bool) (i : ℕ) → 1 ≤ i → i ≤ months_of leap → month_rank (month_of_place leap i) ≡ rank_at leap i
rank-is false = by_month (λ i. month_rank (month_of_place false i) ≡ rank_at false i) refl refl refl refl refl refl refl refl refl refl refl refl
rank-is true = by_thirteen (λ i. month_rank (month_of_place true i) ≡ rank_at true i) refl refl refl refl refl refl refl refl refl refl refl refl refl

rank_at-rises : (leap : Bool) (i j : ℕ) → i < j → rank_at leap i < rank_at leap j
rank_at-rises false i j h = omega arith
rank_at-rises true i j h = grind (arith, nat_tests)

kind-is : (leap : Bool) (i : ℕ) → 1 ≤ i → i ≤ months_of leap → IsTrue (is_hebrew_month (month_of_place leap i))
kind-is false = by_month (λ i. IsTrue (is_hebrew_month (month_of_place false i))) refl refl refl refl refl refl refl refl refl refl refl refl
kind-is true = by_thirteen (λ i. IsTrue (is_hebrew_month (month_of_place true i))) refl refl refl refl refl refl refl refl refl refl refl refl refl

-- the place of a month, or of what stands in for it
abbrev pub place_in : List Entry → MonthParts → Option ℕ
place_in es m = position_from (λ (e : Entry). nat_eq (month_rank e.month) (month_rank m)) 1 es

abbrev HasSpot : Bool → ℕ → MonthParts → Type 0
HasSpot leap n m = (j : ℕ) × (first_of_two (place_in (hebrew_months leap n) m) (place_in (hebrew_months leap n) (hebrew_stand_in m)) ≡ Some j)

abbrev pub month_of : ℕ → Bool → MonthParts
month_of k is_leap = record { number = k; is_leap = is_leap }

plain_spot : (leap : Bool) (n k : ℕ) → 1 ≤ k → k ≤ 12 → HasSpot leap n (month_of k false)
plain_spot false n = by_month (λ k. HasSpot false n (month_of k false)) (1, refl) (2, refl) (3, refl) (4, refl) (5, refl) (6, refl) (7, refl) (8, refl) (9, refl) (10, refl) (11, refl) (12, refl)
plain_spot true n = by_month (λ k. HasSpot true n (month_of k false)) (1, refl) (2, refl) (3, refl) (4, refl) (5, refl) (7, refl) (8, refl) (9, refl) (10, refl) (11, refl) (12, refl) (13, refl)

leap_spot : (leap : Bool) (n : ℕ) → HasSpot leap n (month_of 5 true)
leap_spot false n = (6, refl)
leap_spot true n = (6, refl)

spot_of : (leap : Bool) (n k : ℕ) (is_leap : Bool) → IsTrue (is_hebrew_month (month_of k is_leap)) → HasSpot leap n (month_of k is_leap)
spot_of leap n k false h = plain_spot leap n k (grind (arith, nat_tests)) (grind (arith, nat_tests))
spot_of leap n k true h = let five : 5 ≡ k = grind (arith, nat_tests) in subst (λ (x : ℕ). HasSpot leap n (month_of x true)) five (leap_spot leap n)

spots : (y : ℤ) (m : MonthParts) → IsTrue (is_hebrew_month m) → (j : ℕ) × (spot hebrew_list y m Constrain ≡ Some j)
unfolding hebrew_list spot place_of
spots y m h = spot_of (hebrew_leap y) (hebrew_year_length y) m.number m.is_leap h

pub is_of_kind-hebrew : (m : MonthParts) → hebrew_list.is_of_kind m ≡ is_hebrew_month m
unfolding hebrew_list
is_of_kind-hebrew m = refl

count-is : (leap : Bool) (n : ℕ) → n ≡ months_of leap → (12 ≤ n) × (n ≤ 13)
count-is false n e = (omega arith, omega arith)
count-is true n e = (omega arith, omega arith)

within : (y : ℤ) (i : ℕ) → HasPlace hebrew_list y i → i ≤ months_of (hebrew_leap y)
within y i h = omega (arith, h.1, month_count-leap y)

-- the list is a calendar's
pub hebrew_list-lawful : IsLawful hebrew_list
hebrew_list-lawful = record {
  count = λ y. count-is (hebrew_leap y) (month_count hebrew_list y) (month_count-leap y);
  lengths = λ y i h. let days = place_length-some (hebrew_year_length y) i in (omega (arith, days, month_length-hebrew y i h), omega (arith, days, month_length-hebrew y i h));
  rises = λ y i j h k lt. omega (arith, ap month_rank (month_at-hebrew y i h), ap month_rank (month_at-hebrew y j k), rank-is (hebrew_leap y) i h.0 (within y i h), rank-is (hebrew_leap y) j k.0 (within y j k), rank_at-rises (hebrew_leap y) i j lt);
  kind = λ y i h. is_of_kind-hebrew (month_at hebrew_list y i) ∙ (ap is_hebrew_month (month_at-hebrew y i h) ∙ kind-is (hebrew_leap y) i h.0 (within y i h));
  stands = λ y m h. spots y m (sym (is_of_kind-hebrew m) ∙ h);
}
