-- The months of a Gregorian year in closed form, and what follows for each list that has them.
use Rattle.std.proofs.Common.{◌≡◌, ◌≢◌, ◌==◌, ◌||◌, ℕ, ◌-◌, ◌≤◌, Bool, true, false, if◌then◌else◌, IsTrue, ◌↔◌, List, length, sum_by, take, refl, sym, ap, ◌∙◌, arith, ℤ, ◌+ℤ◌, inl}
use Rattle.std.specs.Prelude.{slice_index_or}
use Rattle.cal_types.specs.CalendarList.{CalendarList, Entry, days_of, no_entry, days_before, month_length, year_length}
use Rattle.cal_types.specs.PlainMonths.{numbered_month, HasPlainMonths}
use Rattle.cal_types.specs.Renumbered.{renumbered}
use Rattle.cal_types.proofs.DateTests.{same_truth}
use Rattle.cal_types.proofs.MonthCases.{by_month}
use Rattle.cal_base.specs.GregorianList.{gregorian_months, gregorian_month_length, gregorian_days_before, HasGregorianMonths}

pub gregorian_month_length-within : (leap : Bool) (i : ℕ) → 1 ≤ i → i ≤ 12 → (1 ≤ gregorian_month_length leap i) × (gregorian_month_length leap i ≤ 31)
gregorian_month_length-within true = by_month (λ i. (1 ≤ gregorian_month_length true i) × (gregorian_month_length true i ≤ 31)) (omega arith, omega arith) (omega arith, omega arith) (omega arith, omega arith) (omega arith, omega arith) (omega arith, omega arith) (omega arith, omega arith) (omega arith, omega arith) (omega arith, omega arith) (omega arith, omega arith) (omega arith, omega arith) (omega arith, omega arith) (omega arith, omega arith)
gregorian_month_length-within false = by_month (λ i. (1 ≤ gregorian_month_length false i) × (gregorian_month_length false i ≤ 31)) (omega arith, omega arith) (omega arith, omega arith) (omega arith, omega arith) (omega arith, omega arith) (omega arith, omega arith) (omega arith, omega arith) (omega arith, omega arith) (omega arith, omega arith) (omega arith, omega arith) (omega arith, omega arith) (omega arith, omega arith) (omega arith, omega arith)

gregorian_month-at : (leap : Bool) (i : ℕ) → 1 ≤ i → i ≤ 12 → (slice_index_or (gregorian_months leap) (i - 1) no_entry).month ≡ numbered_month i
gregorian_month-at leap =
    by_month (λ i. (slice_index_or (gregorian_months leap) (i - 1) no_entry).month ≡ numbered_month i)
    refl refl refl refl refl refl refl refl refl refl refl refl

gregorian_days : (leap : Bool) → sum_by days_of (gregorian_months leap) ≡ (if leap then 366 else 365)
gregorian_days true = refl
gregorian_days false = refl

-- what the test of a leap year tells
pub leap_is : (leap : ℤ → Bool) (r : Bool) (y z : ℤ) → z ≡ y → IsTrue r ↔ IsTrue (leap z) → leap y ≡ r
leap_is leap r y z e h = ap leap (sym e) ∙ same_truth r (leap z) h

module _ (leap : ℤ → Bool) (c : CalendarList) (has : HasGregorianMonths leap c) where
  pub days_before-gregorian : (y : ℤ) (i : ℕ) → days_before c y i ≡ gregorian_days_before (leap y) i
  unfolding days_before
  days_before-gregorian y i = ap (λ (es : List Entry). sum_by days_of (take (i - 1) es)) (has.entries y)

  pub month_length-gregorian : (y : ℤ) (i : ℕ) → month_length c y i ≡ gregorian_month_length (leap y) i
  month_length-gregorian y i = ap (λ (es : List Entry). (slice_index_or es (i - 1) no_entry).days) (has.entries y)

  pub year_length-gregorian : (y : ℤ) → year_length c y ≡ (if leap y then 366 else 365)
  year_length-gregorian y = ap (λ (es : List Entry). sum_by days_of es) (has.entries y) ∙ gregorian_days (leap y)

  -- each year has the plain months 1 to 12
  pub gregorian-plain : HasPlainMonths 12 c
  gregorian-plain = record {
    number = inl refl;
    count = λ y. ap (λ (es : List Entry). length es) (has.entries y);
    months = λ y i low high. ap (λ (es : List Entry). (slice_index_or es (i - 1) no_entry).month) (has.entries y) ∙ gregorian_month-at (leap y) i low high;
    lengths = λ y i low high. rw (month_length-gregorian y i) (gregorian_month_length-within (leap y) i low high);
    kind = has.kind;
  }

-- a list that counts the years from another one has these months too
pub renumbered-gregorian : (leap : ℤ → Bool) (c : CalendarList) (shift : ℤ) → HasGregorianMonths leap c → HasGregorianMonths (λ y. leap (y +ℤ shift)) (renumbered shift c)
unfolding renumbered
renumbered-gregorian leap c shift has = record { entries = λ y. has.entries (y +ℤ shift); kind = has.kind }
