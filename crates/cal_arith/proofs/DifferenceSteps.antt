-- The steps of a difference, over plain variables.
use Rattle.std.proofs.Common.{◌≡◌, ℕ, ◌+◌, ◌-◌, ◌*◌, ◌<◌, ◌≤◌, ◌↔◌, Bool, true, false, IsTrue, Some, refl, ap, subst, ◌∙◌, arith, unsigned_abs, ℤ, pos, ◌+ℤ◌, ◌-ℤ◌, ◌<ℤ◌}
use Rattle.cal_types.specs.declared.options.Overflow.TheVariants.{Constrain}
use Rattle.cal_types.specs.declared.duration.DateDuration.{DateDuration}
use Rattle.cal_types.specs.declared.duration.DateDurationUnit.{DateDurationUnit}
use Rattle.cal_types.specs.declared.duration.DateDurationUnit.TheVariants.{Years, Months, Weeks, Days}
use Rattle.cal_types.specs.CalendarList.{CalendarList, Date, HasPlace, IsDate, day_number, month_at, month_count, month_number, spot}
use Rattle.cal_types.specs.WithinYear.{Leads}
use Rattle.cal_types.specs.Difference.{toward, Reaches, YearsSurpass, MonthsSurpass, DaysSurpass, IsGreatest, IsGreatestIf, IsDifference, admits_years, admits_months, admits_weeks}
use Rattle.cal_days.proofs.Signed.{signed, by_lt}
use Rattle.cal_types.proofs.ListLemmas.{month_number-place, month_number-next}
use Rattle.cal_types.proofs.DifferenceLemmas.{greatest_if, leads-years, toward-zero, years_surpass-far, years_surpass-near}
use Rattle.cal_types.proofs.DifferenceLaws.{IsLeft, greatest_weeks-left, greatest_days-left}
use Rattle.cal_arith.specs.Ticks.{most_ticks}

-- the next place of a year has the next month
pub month_number-next_place : (c : CalendarList) (y : ℤ) (i : ℕ) → 1 ≤ i → month_number c y (i + 1) ≡ month_number c y i +ℤ pos 1
month_number-next_place c y i some = omega (arith, signed, month_number-place c y i some, month_number-place c y (i + 1) (omega arith))

-- after a year's last month comes the next year's first
pub month_number-year_end : (c : CalendarList) (y z : ℤ) (i : ℕ) → 1 ≤ i → i ≡ month_count c y → z ≡ y +ℤ pos 1 → month_number c z 1 ≡ month_number c y i +ℤ pos 1
month_number-year_end c y z i some last next =
    let first : month_number c z 1 ≡ month_number c (y +ℤ pos 1) 1 = ap (λ (x : ℤ). month_number c x 1) next in
    omega (arith, signed, first, month_number-next c y, month_number-place c y i some)

-- one less in the direction of counting
pub toward-less : (back : Bool) (a b e : ℤ) (n : ℕ) → 1 ≤ n → e ≡ a +ℤ toward back n → e ≡ b +ℤ toward back 1 → b ≡ a +ℤ toward back (n - 1)
toward-less false a b e n some far one = omega (arith, signed)
toward-less true a b e n some far one = omega (arith, signed)

-- the month that months lead to, from the one that years lead to
pub reaches-months : (c : CalendarList) (t : Date) (back : Bool) (years months : ℕ) (y : ℤ) (i : ℕ) (z : ℤ) (j : ℕ) → y ≡ t.year +ℤ toward back years → spot c y (month_at c t.year t.month) Constrain ≡ Some i → HasPlace c z j → month_number c z j ≡ month_number c y i +ℤ toward back months → Reaches c t back years months z j
reaches-months c t back years months y i z j year spot_is place moved = record {
  from = i;
  spot_is = subst (λ (x : ℤ). spot c x (month_at c t.year t.month) Constrain ≡ Some i) year spot_is;
  moved = record { place = place; moved = moved ∙ ap (λ (x : ℤ). month_number c x i +ℤ toward back months) year };
}

-- the parts of a difference, where some days are left after years and months
pub difference-parts : (c : CalendarList) (t u : Date) (unit : DateDurationUnit) (d : DateDuration) (left : ℕ) → (IsTrue d.is_negative ↔ (day_number c u <ℤ day_number c t)) → IsGreatestIf (admits_years unit) (YearsSurpass c t u d.is_negative) d.years → IsGreatestIf (admits_months unit) (MonthsSurpass c t u d.is_negative d.years) d.months → IsLeft c t u d.is_negative d.years d.months left → (IsTrue (admits_weeks unit) → (7 * d.weeks ≤ left) × (left < 7 * d.weeks + 7)) → (admits_weeks unit ≡ false → d.weeks ≡ 0) → 7 * d.weeks + d.days ≡ left → IsDifference c t u unit d
difference-parts c t u unit d left sign years months rest weeks no_weeks sum = record {
  sign = sign;
  years = years;
  months = months;
  weeks = greatest_if (admits_weeks unit) (λ k. DaysSurpass c t u d.is_negative d.years d.months (7 * k)) d.weeks
      (λ admitted. greatest_weeks-left c t u d.is_negative d.years d.months left d.weeks d.days rest sum (let most = weeks admitted in omega arith))
      no_weeks;
  days = greatest_days-left c t u d.is_negative d.years d.months left d.weeks d.days rest sum;
}

-- the weeks fit into the days that are left
pub weeks-fit : (b : Bool) (w left : ℕ) → (IsTrue b → (7 * w ≤ left) × (left < 7 * w + 7)) → (b ≡ false → w ≡ 0) → 7 * w ≤ left
weeks-fit true w left weeks no_weeks = (weeks refl).0
weeks-fit false w left weeks no_weeks = let none = no_weeks refl in omega arith

module _ (c : CalendarList) (back : Bool) (t u : Date) (h : IsDate c t) (k : IsDate c u) (leads : Leads c back t u) where
  -- the greatest number of years leaves at most one year
  years-one_left : (years : ℕ) → IsGreatest (YearsSurpass c t u back) years → unsigned_abs (u.year -ℤ (t.year +ℤ toward back years)) ≤ 1
  years-one_left years greatest =
      let n = unsigned_abs (u.year -ℤ t.year) in
      let apart = leads-years c back t u h k leads in
      by_lt {P = unsigned_abs (u.year -ℤ (t.year +ℤ toward back years)) ≤ 1} n years
      (λ lt. absurd (greatest.within (years_surpass-far c back t u n years apart lt)))
      (λ most. by_lt {P = unsigned_abs (u.year -ℤ (t.year +ℤ toward back years)) ≤ 1} (years + 1) n
      (λ lt. absurd (years_surpass-near c back t u n (years + 1) apart lt (greatest.most (years + 1) (omega arith))))
      (λ least. close back apart most least)) where
        close : (b : Bool) → u.year ≡ t.year +ℤ toward b (unsigned_abs (u.year -ℤ t.year)) → years ≤ unsigned_abs (u.year -ℤ t.year) → unsigned_abs (u.year -ℤ t.year) ≤ years + 1 → unsigned_abs (u.year -ℤ (t.year +ℤ toward b years)) ≤ 1
        close false apart most least = omega (arith, signed)
        close true apart most least = omega (arith, signed)

  -- so few years are looked up
  pub ticks-most : (unit : DateDurationUnit) (years old after_years after_months : ℕ) (y : ℤ) → y ≡ t.year +ℤ toward back years → IsGreatestIf (admits_years unit) (YearsSurpass c t u back) years → after_years ≡ old + 1 → (IsTrue (admits_months unit) → after_months ≤ after_years + unsigned_abs (u.year -ℤ y) + 1) → (admits_months unit ≡ false → after_months ≡ after_years) → after_months ≤ old + most_ticks unit (unsigned_abs (u.year -ℤ t.year))
  ticks-most Years years old after_years after_months y same greatest one ticks no_ticks =
      let few = years-one_left years greatest in
      let reached : unsigned_abs (u.year -ℤ y) ≡ unsigned_abs (u.year -ℤ (t.year +ℤ toward back years)) = ap (λ (x : ℤ). unsigned_abs (u.year -ℤ x)) same in
      omega (arith, few, reached, ticks refl)
  ticks-most Months years old after_years after_months y same none one ticks no_ticks =
      let here : y ≡ t.year = same ∙ ap (λ (n : ℕ). t.year +ℤ toward back n) none ∙ toward-zero back t.year in
      let reached : unsigned_abs (u.year -ℤ y) ≡ unsigned_abs (u.year -ℤ t.year) = ap (λ (x : ℤ). unsigned_abs (u.year -ℤ x)) here in
      omega (arith, reached, ticks refl)
  ticks-most Weeks years old after_years after_months y same none one ticks no_ticks = omega (arith, no_ticks refl)
  ticks-most Days years old after_years after_months y same none one ticks no_ticks = omega (arith, no_ticks refl)
