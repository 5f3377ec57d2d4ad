-- Late years are years one after another, and their months start where they are said to.
use Rattle.std.proofs.Common.{◌≡◌, ◌⊎◌, ⊎_elim, inl, inr, ◌<◌, ◌≤◌, Bool, true, false, if◌then◌else◌, refl, arith, ℤ, pos, ◌+ℤ◌, ◌-ℤ◌}
use Rattle.std.specs.Ordering.{int_eq}
use Rattle.std.proofs.lemmas.Int.{ints}
use Rattle.cal_days.specs.Islamic.{islamic_mean_start}
use Rattle.cal_days.proofs.IslamicLemmas.{mean_start-next}
use Rattle.cal_days.proofs.Signed.{signed}
use Rattle.cal_days.specs.Day.{IsRuleYear}
use Rattle.cal_types.proofs.MonthCases.{by_month}
use Rattle.cal_hijri.specs.HijriMonths.{days_of_months, month_days}
use Rattle.cal_hijri.specs.laws.HijriMonthLaws.{month_days-within}
use Rattle.cal_hijri.specs.MonthStarts.{AreMonthStarts, HasLengthsOf, days_between}
use Rattle.cal_hijri.specs.HijriList.{Joins, Numbered}
use Rattle.lunar_tests.specs.LateStarts.{late_start, late_long}
use Rattle.lunar_tests.specs.LateYears.{late_year, late_month_starts}

pub late-numbered : Numbered late_year
late-numbered y rule = refl

joined : (first next : ℤ) (is_long : Bool) → int_eq (next -ℤ first) (pos 355) ≡ is_long → (next ≡ first +ℤ pos 354) ⊎ (next ≡ first +ℤ pos 355) → next ≡ first +ℤ pos (days_of_months (if is_long then 3413 else 1365))
joined first next true e h =
    let days : next -ℤ first ≡ pos 355 = grind (arith, ints) in
    omega (arith, signed)
joined first next false e h =
    ⊎_elim {C = next ≡ first +ℤ pos 354} (λ short. short) (λ long. absurd (not_long (next -ℤ first) (omega (arith, signed)) e)) h
  where
    not_long : (days : ℤ) → days ≡ pos 355 → int_eq days (pos 355) ≡ false → ⊥
    not_long days same off = grind (arith, ints)

shifted : (a b : ℤ) → (a ≡ b +ℤ pos 354) ⊎ (a ≡ b +ℤ pos 355) → (a +ℤ pos 5 ≡ b +ℤ pos 5 +ℤ pos 354) ⊎ (a +ℤ pos 5 ≡ b +ℤ pos 5 +ℤ pos 355)
shifted a b h = ⊎_elim {C = (a +ℤ pos 5 ≡ b +ℤ pos 5 +ℤ pos 354) ⊎ (a +ℤ pos 5 ≡ b +ℤ pos 5 +ℤ pos 355)} (λ e. inl (omega (arith, signed))) (λ e. inr (omega (arith, signed))) h

pub late-joins : Joins late_year
late-joins y here there =
    joined (late_start y) (late_start (y +ℤ pos 1)) (int_eq (late_start (y +ℤ pos 1) -ℤ late_start y) (pos 355)) refl
    (shifted (islamic_mean_start (y +ℤ pos 1)) (islamic_mean_start y) (mean_start-next y))

lengths_by : (first next : ℤ) (is_long : Bool) → next ≡ first +ℤ pos (days_of_months (if is_long then 3413 else 1365)) → HasLengthsOf (late_month_starts first next) (if is_long then 3413 else 1365)
lengths_by first next true e = by_month (λ i. pos (month_days 3413 i) ≡ days_between (late_month_starts first next) i)
    (omega (arith, signed)) (omega (arith, signed)) (omega (arith, signed)) (omega (arith, signed)) (omega (arith, signed)) (omega (arith, signed))
    (omega (arith, signed)) (omega (arith, signed)) (omega (arith, signed)) (omega (arith, signed)) (omega (arith, signed)) (omega (arith, signed))
lengths_by first next false e = by_month (λ i. pos (month_days 1365 i) ≡ days_between (late_month_starts first next) i)
    (omega (arith, signed)) (omega (arith, signed)) (omega (arith, signed)) (omega (arith, signed)) (omega (arith, signed)) (omega (arith, signed))
    (omega (arith, signed)) (omega (arith, signed)) (omega (arith, signed)) (omega (arith, signed)) (omega (arith, signed)) (omega (arith, signed))

-- they tell the lengths of its months
pub late-lengths : (y : ℤ) → HasLengthsOf (late_month_starts (late_start y) (late_start (y +ℤ pos 1))) (late_long y)
late-lengths y =
    lengths_by (late_start y) (late_start (y +ℤ pos 1)) (int_eq (late_start (y +ℤ pos 1) -ℤ late_start y) (pos 355))
    (joined (late_start y) (late_start (y +ℤ pos 1)) (int_eq (late_start (y +ℤ pos 1) -ℤ late_start y) (pos 355)) refl
    (shifted (islamic_mean_start (y +ℤ pos 1)) (islamic_mean_start y) (mean_start-next y)))

-- and are those of a year
pub late-starts : (y : ℤ) → IsRuleYear y → AreMonthStarts y (late_month_starts (late_start y) (late_start (y +ℤ pos 1)))
late-starts y rule = record {
  year = rule;
  near = (omega (arith, signed), omega (arith, signed));
  months = λ i low high.
      let some : 1 ≤ i = omega (arith, low) in
      let within = month_days-within (late_long y) i some high in
      let length = late-lengths y i some high in
      (omega (arith, signed, within, length), omega (arith, signed, within, length));
}
