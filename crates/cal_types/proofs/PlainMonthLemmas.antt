-- What follows for a list whose years have the plain months 1 to n.
use Rattle.std.proofs.Common.{◌≡◌, ◌⊎◌, ℕ, zero, suc, ◌-◌, ◌*◌, ◌<◌, ◌≤◌, Bool, true, false, Some, min, sym, ap, ◌∙◌, arith, unsigned_abs, ℤ, pos, neg_ℤ, ◌+ℤ◌, ◌-ℤ◌, ◌*ℤ◌, inl, inr}
use Rattle.std.proofs.lemmas.Bool.Decides.{nat_tests}
use Rattle.cal_days.specs.Day.{IsBetween}
use Rattle.cal_days.specs.Sums.{total}
use Rattle.cal_days.proofs.Signed.{signed}
use Rattle.cal_days.proofs.SumLemmas.{span-unique}
use Rattle.cal_types.specs.Month.{MonthParts, month_rank, plain_month}
use Rattle.cal_types.specs.declared.options.Overflow.TheVariants.{Constrain}
use Rattle.cal_types.specs.CalendarList.{CalendarList, Date, month_at, month_count, month_number, place_of, HasPlace, IsLawful}
use Rattle.cal_types.specs.PlainMonths.{numbered_month, is_plain_month, HasPlainMonths}
use Rattle.cal_types.specs.Renumbered.{renumbered}
use Rattle.cal_types.proofs.ListLemmas.{place_of-own, spot-own}

-- what the test of a plain month says
pub plain_is : (n : ℕ) (m : MonthParts) → is_plain_month n m ≡ true → (1 ≤ m.number) × (m.number ≤ n) × (m ≡ numbered_month m.number)
plain_is n m h =
    let plain : m.is_leap ≡ false = grind (arith, nat_tests) in
    (grind (arith, nat_tests), grind (arith, nat_tests), ap (λ (b : Bool). with_leap b) plain) where
      with_leap : Bool → MonthParts
      with_leap b = record { number = m.number; is_leap = b }

pub true-plain : (n i : ℕ) → 1 ≤ i → i ≤ n → is_plain_month n (numbered_month i) ≡ true
true-plain n i low high = grind (arith, nat_tests)

-- a number of a month of a year is below 100, so that the month of that number has it
pub plain_month-small : (i : ℕ) → i ≤ 13 → plain_month i ≡ numbered_month i
plain_month-small i h = let same : min i 99 ≡ i = omega arith in ap numbered_month same

module _ (n : ℕ) (c : CalendarList) (has : HasPlainMonths n c) where
  -- a place of a year is one from 1 to n
  pub plain-place : (y : ℤ) (i : ℕ) → HasPlace c y i → (1 ≤ i) × (i ≤ n)
  plain-place y i h = (h.0, omega (arith, h.1, has.count y))

  pub plain-month : (y : ℤ) (i : ℕ) → HasPlace c y i → month_at c y i ≡ numbered_month i
  plain-month y i h = has.months y i h.0 (plain-place y i h).1

  plain-rises : (y : ℤ) (i j : ℕ) → HasPlace c y i → HasPlace c y j → i < j → month_rank (month_at c y i) < month_rank (month_at c y j)
  plain-rises y i j h k lt = omega (arith, ap month_rank (plain-month y i h), ap month_rank (plain-month y j k))

  -- a month of the kind stands in the place of its number
  pub place_of-plain : (y : ℤ) (m : MonthParts) → is_plain_month n m ≡ true → place_of c y m ≡ Some m.number
  place_of-plain y m h =
      let known = plain_is n m h in
      let here : HasPlace c y m.number = (known.0, omega (arith, known.1, has.count y)) in
      ap (place_of c y) (known.2 ∙ sym (plain-month y m.number here)) ∙ place_of-own c y m.number (plain-rises y) here

  between : (12 ≤ n) × (n ≤ 13)
  between = elim has.number [ inl e ↦ (omega (arith, e), omega (arith, e)) | inr e ↦ (omega (arith, e), omega (arith, e)) ]

  -- the list is a calendar's
  pub plain-lawful : IsLawful c
  plain-lawful = record {
    count = λ y. (omega (arith, between, has.count y), omega (arith, between, has.count y));
    lengths = λ y i h. has.lengths y i h.0 (plain-place y i h).1;
    rises = plain-rises;
    kind = λ y i h. has.kind (month_at c y i) ∙ (ap (is_plain_month n) (plain-month y i h) ∙ true-plain n i h.0 (plain-place y i h).1);
    stands = λ y m h. (m.number, spot-own c y m Constrain m.number (place_of-plain y m (sym (has.kind m) ∙ h)));
  }

  -- k years have k times n months
  pub total-plain : (y : ℤ) (k : ℕ) → total (month_count c) y k ≡ n * k
  unfolding total
  total-plain y zero = omega arith
  total-plain y (suc k) = omega (arith, total-plain y k, has.count (y +ℤ pos k))

-- where each year has as many months, a month's number is linear in its year
pub month_number-twelve : (c : CalendarList) → ((y : ℤ) → month_count c y ≡ 12) → (y : ℤ) (i : ℕ) → month_number c y i ≡ pos 12 *ℤ (y -ℤ c.anchor_year) +ℤ pos (i - 1)
unfolding month_number
month_number-twelve c count y i =
    let months = span-unique (month_count c) c.anchor_year (λ z. pos 12 *ℤ z) (λ z. omega (arith, signed, count z)) y in
    omega (arith, signed, months)

pub month_number-thirteen : (c : CalendarList) → ((y : ℤ) → month_count c y ≡ 13) → (y : ℤ) (i : ℕ) → month_number c y i ≡ pos 13 *ℤ (y -ℤ c.anchor_year) +ℤ pos (i - 1)
unfolding month_number
month_number-thirteen c count y i =
    let months = span-unique (month_count c) c.anchor_year (λ z. pos 13 *ℤ z) (λ z. omega (arith, signed, count z)) y in
    omega (arith, signed, months)

-- dates of years from -1039999 to 1039999 lie at most 27040000 months apart: as many as 2080000 years of 13 months have
module _ (n : ℕ) (c : CalendarList) (has : HasPlainMonths n c) (t u : Date) (h : HasPlace c t.year t.month) (k : HasPlace c u.year u.month) (first : IsBetween (neg_ℤ (pos 1039999)) (pos 1039999) t.year) (second : IsBetween (neg_ℤ (pos 1039999)) (pos 1039999) u.year) where
  apart_by : (n ≡ 12) ⊎ (n ≡ 13) → unsigned_abs (month_number c u.year u.month -ℤ month_number c t.year t.month) ≤ 27040000
  apart_by (inl e) =
      let twelve = month_number-twelve c (λ y. has.count y ∙ e) in
      omega (arith, signed, first, second, plain-place n c has t.year t.month h, plain-place n c has u.year u.month k, e, twelve t.year t.month, twelve u.year u.month)
  apart_by (inr e) =
      let thirteen = month_number-thirteen c (λ y. has.count y ∙ e) in
      omega (arith, signed, first, second, plain-place n c has t.year t.month h, plain-place n c has u.year u.month k, e, thirteen t.year t.month, thirteen u.year u.month)

  pub apart-plain : unsigned_abs (month_number c u.year u.month -ℤ month_number c t.year t.month) ≤ 27040000
  apart-plain = apart_by has.number

-- a list that counts the years from another one has plain months too
pub renumbered-plain : (n : ℕ) (c : CalendarList) → HasPlainMonths n c → (shift : ℤ) → HasPlainMonths n (renumbered shift c)
unfolding renumbered
renumbered-plain n c has shift = record {
  number = has.number;
  count = λ y. has.count (y +ℤ shift);
  months = λ y i low high. has.months (y +ℤ shift) i low high;
  lengths = λ y i low high. has.lengths (y +ℤ shift) i low high;
  kind = has.kind;
}
