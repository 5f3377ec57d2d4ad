-- The weekday of a number in a month, and weekdays beside days.
use Rattle.std.proofs.Common.{◌≡◌, ◌<◌, ◌≤◌, ◌+◌, ◌-◌, ◌/◌, ◌&&◌, inl, inr, ℕ, zero, suc, Bool, true, false, refl, sym, subst, arith, ℤ, pos, negsuc, ◌+ℤ◌, ◌-ℤ◌, ◌*ℤ◌, ◌<ℤ◌, ◌≤ℤ◌}
use Rattle.std.specs.Prelude.{nat_eq, nat_lt}
use Rattle.std.proofs.lemmas.Bool.{eqb-true}
use Rattle.std.proofs.lemmas.Bool.Decides.{nat_tests}
use Rattle.cal_days.specs.Day.{IsBetween}
use Rattle.cal_days.specs.Division.{floor_mod}
use Rattle.cal_days.specs.Sums.{years_up}
use Rattle.cal_days.proofs.DivisionLemmas.{floor_parts}
use Rattle.cal_days.proofs.Signed.{signed}
use Rattle.cal_types.proofs.DateTests.{and-left, and-right, true-and}
use Rattle.cal_types.specs.Weekday.{days_since_sunday}
use Rattle.cal_types.specs.declared.weekday.Weekday.{Weekday}
use Rattle.cal_types.specs.declared.weekday.Weekday.TheVariants.{Monday, Tuesday, Wednesday, Thursday, Friday, Saturday, Sunday}
use Rattle.cal_holidays.specs.MonthDays.{IsNthNumber, IsOnly}
use Rattle.cal_holidays.specs.NamedDays.{HasWeekday, IsNthOf}
use Rattle.cal_holidays.specs.Naming.{has_weekday, is_nth_day}

pub few : (w : Weekday) → days_since_sunday w < 7
few Monday = omega arith
few Tuesday = omega arith
few Wednesday = omega arith
few Thursday = omega arith
few Friday = omega arith
few Saturday = omega arith
few Sunday = omega arith

-- the last one of a month
pub last_only : (w : Weekday) (before : ℤ) (length : ℕ) (day : ℤ)
    → day ≡ before +ℤ pos length -ℤ pos (floor_mod (before +ℤ pos length -ℤ pos (days_since_sunday w)) 7) → IsOnly (negsuc 0) w before length day
last_only w before length day e d some most =
    let small = few w in
    let a = floor_parts (before +ℤ pos d) 7 (omega arith) in
    let b = floor_parts (before +ℤ pos length -ℤ pos (days_since_sunday w)) 7 (omega arith) in (
      λ h.
          let on : floor_mod (before +ℤ pos d) 7 ≡ days_since_sunday w = grind (arith, nat_tests, and-left (has_weekday w (before +ℤ pos d)) _ h) in
          let late : length < d + 7 = grind (arith, nat_tests, and-right (has_weekday w (before +ℤ pos d)) _ h) in
          omega (arith, signed, small, a, b, on, late, e),
      λ is.
          let on : floor_mod (before +ℤ pos d) 7 ≡ days_since_sunday w = omega (arith, signed, small, a, b, is, e) in
          let late : length < d + 7 = omega (arith, signed, b, is, e) in
          let first : has_weekday w (before +ℤ pos d) ≡ true = grind (arith, nat_tests, on) in
          let second : nat_lt length (d + 7) ≡ true = grind (arith, nat_tests, late) in
          true-and (has_weekday w (before +ℤ pos d)) (nat_lt length (d + 7)) first second,
    )

-- the first to the fifth
pub kth_only : (w : Weekday) (before : ℤ) (length k : ℕ) (day : ℤ) → 1 ≤ k
    → day ≡ before +ℤ pos 1 +ℤ pos (floor_mod (pos (days_since_sunday w) -ℤ (before +ℤ pos 1)) 7) +ℤ pos 7 *ℤ (pos k -ℤ pos 1) → IsOnly (pos k) w before length day
kth_only w before length k day one e d some most =
    let small = few w in
    let a = floor_parts (before +ℤ pos d) 7 (omega arith) in
    let b = floor_parts (pos (days_since_sunday w) -ℤ (before +ℤ pos 1)) 7 (omega arith) in (
      λ h.
          let on : floor_mod (before +ℤ pos d) 7 ≡ days_since_sunday w = grind (arith, nat_tests, and-left (has_weekday w (before +ℤ pos d)) _ h) in
          let week : k ≡ 1 + (d - 1) / 7 = grind (arith, nat_tests, and-right (has_weekday w (before +ℤ pos d)) _ h) in
          omega (arith, signed, small, a, b, on, week, e),
      λ is.
          let on : floor_mod (before +ℤ pos d) 7 ≡ days_since_sunday w = omega (arith, signed, small, a, b, is, e) in
          let week : k ≡ 1 + (d - 1) / 7 = omega (arith, signed, b, is, e) in
          let first : has_weekday w (before +ℤ pos d) ≡ true = grind (arith, nat_tests, on) in
          let second : nat_eq k (1 + (d - 1) / 7) ≡ true = grind (arith, nat_tests, week) in
          true-and (has_weekday w (before +ℤ pos d)) (nat_eq k (1 + (d - 1) / 7)) first second,
    )

-- the first day of a weekday on or after a day, and the last one on or before it
pub after_week : (w : Weekday) (sunday day n : ℤ) → sunday ≡ pos (days_since_sunday w) → n ≡ day +ℤ pos (floor_mod (sunday -ℤ day) 7) → HasWeekday w n × IsBetween day (day +ℤ pos 6) n
after_week w sunday day n s e =
    let small = few w in
    let a = floor_parts (sunday -ℤ day) 7 (omega arith) in
    let b = floor_parts n 7 (omega arith) in
    (omega (arith, signed, small, a, b, s, e), (omega (arith, signed, a, e), omega (arith, signed, a, e)))

pub before_week : (w : Weekday) (sunday day n : ℤ) → sunday ≡ pos (days_since_sunday w) → n ≡ day -ℤ pos (floor_mod (day -ℤ sunday) 7) → HasWeekday w n × IsBetween (day -ℤ pos 6) day n
before_week w sunday day n s e =
    let small = few w in
    let a = floor_parts (day -ℤ sunday) 7 (omega arith) in
    let b = floor_parts n 7 (omega arith) in
    (omega (arith, signed, small, a, b, s, e), (omega (arith, signed, a, e), omega (arith, signed, a, e)))

pub nth-true : (nth : ℤ) (length d : ℕ) → 1 ≤ d → is_nth_day nth length d ≡ true → IsNthOf nth length d
nth-true (pos k) length d some h =
    let week : k ≡ 1 + (d - 1) / 7 = eqb-true k (1 + (d - 1) / 7) h in
    inl (k, refl, omega (arith, week), omega (arith, week))
nth-true (negsuc zero) length d some h = inr (refl, grind (arith, nat_tests))
nth-true (negsuc (suc k)) length d some h = absurd cc

pub true-nth : (nth : ℤ) (length d : ℕ) → 1 ≤ d → IsNthOf nth length d → is_nth_day nth length d ≡ true
true-nth nth length d some (inl (k, e, low, high)) =
    let week : k ≡ 1 + (d - 1) / 7 = omega (arith, low, high) in
    let is : nat_eq k (1 + (d - 1) / 7) ≡ true = grind (arith, nat_tests) in
    subst (λ (z : ℤ). is_nth_day z length d ≡ true) (sym e) is
true-nth nth length d some (inr (e, late)) =
    let is : nat_lt length (d + 7) ≡ true = grind (arith, nat_tests) in
    subst (λ (z : ℤ). is_nth_day z length d ≡ true) (sym e) is

pub is_last : (nth : ℤ) → IsNthNumber nth → nth <ℤ pos 0 → nth ≡ negsuc 0
is_last nth (inl within) lt = absurd (omega (arith, signed, within))
is_last nth (inr e) lt = e

pub is_kth : (nth : ℤ) → IsNthNumber nth → pos 0 ≤ℤ nth → (pos (years_up nth) ≡ nth) × IsBetween (pos 1) (pos 5) nth
is_kth nth (inl within) le = (omega (arith, signed, within), within)
is_kth nth (inr e) le = absurd (omega (arith, signed, e))
