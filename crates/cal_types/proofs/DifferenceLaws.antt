-- Two dates have one difference in each unit, and there is one.
use Rattle.std.proofs.Common.{◌≡◌, ℕ, ◌+◌, ◌-◌, ◌*◌, ◌/◌, ◌%◌, ◌<◌, ◌≤◌, ◌⊎◌, inl, inr, ◌↔◌, Bool, true, false, IsTrue, min, Some, refl, sym, ap, subst, ◌∙◌, arith, unsigned_abs, int_lt, ℤ, ◌+ℤ◌, ◌-ℤ◌, ◌<ℤ◌}
use Rattle.std.proofs.lemmas.Int.{ints}
use Rattle.cal_types.specs.Month.{month_rank}
use Rattle.cal_types.specs.declared.options.Overflow.TheVariants.{Constrain}
use Rattle.cal_types.specs.declared.duration.DateDuration.{DateDuration}
use Rattle.cal_types.specs.declared.duration.DateDurationUnit.{DateDurationUnit}
use Rattle.cal_types.specs.declared.duration.DateDurationUnit.TheVariants.{Weeks, Days}
use Rattle.cal_types.specs.CalendarList.{CalendarList, Date, date, month_at, month_length, spot, day_number, HasPlace, IsDate, IsLawful, month_number}
use Rattle.cal_types.specs.WithinYear.{Leads, IsPast, IsPastDay, SurpassesInYear}
use Rattle.cal_types.specs.Difference.{toward, IsBeyondDay, YearsSurpass, Reaches, MonthsSurpass, DaysSurpass, IsGreatest, IsGreatestIf, admits_years, admits_months, admits_weeks, IsDifference}
use Rattle.cal_days.proofs.Signed.{signed, by_lt}
use Rattle.cal_types.proofs.ListLemmas.{place_of-own, spot-own, spot-place, month_number-injective, month-finds}
use Rattle.cal_types.proofs.DifferenceLemmas.{IsMonthOrder, base, base-within, days-left, greatest-days, greatest-months, greatest-months_less, greatest-weeks, greatest-years, greatest-years_less, leads-of, leads-years, months_surpass-none, past_day-beyond, within-order, years-one_year, toward-zero, years_surpass-none}

-- only one number is the greatest
pub greatest-unique : (Surpasses : ℕ → Type 0) (j k : ℕ) → IsGreatest Surpasses j → IsGreatest Surpasses k → j ≡ k
greatest-unique Surpasses j k p q =
    by_lt {P = j ≡ k} j k (λ lt. absurd (q.within (p.most k lt)))
    (λ ge. by_lt {P = j ≡ k} k j (λ lt. absurd (p.within (q.most j lt))) (λ le. omega arith))

-- and only one that of a unit, admitted or not
pub greatest_if-unique : (b : Bool) (Surpasses : ℕ → Type 0) (j k : ℕ) → IsGreatestIf b Surpasses j → IsGreatestIf b Surpasses k → j ≡ k
greatest_if-unique true Surpasses j k p q = greatest-unique Surpasses j k p q
greatest_if-unique false Surpasses j k p q = p ∙ sym q

same_truth : (a b : Bool) → (IsTrue a → IsTrue b) → (IsTrue b → IsTrue a) → a ≡ b
same_truth true true f g = refl
same_truth true false f g = sym (f refl)
same_truth false true f g = g refl
same_truth false false f g = refl

abbrev duration : Bool → ℕ → ℕ → ℕ → ℕ → DateDuration
duration back years months weeks days = record { is_negative = back; years = years; months = months; weeks = weeks; days = days }

-- two dates have one difference
pub difference-unique : (c : CalendarList) (t u : Date) (unit : DateDurationUnit) (d e : DateDuration) → IsDifference c t u unit d → IsDifference c t u unit e → d ≡ e
difference-unique c t u unit d e p q =
    let back : e.is_negative ≡ d.is_negative = same_truth e.is_negative d.is_negative (λ x. p.sign.1 (q.sign.0 x)) (λ x. q.sign.1 (p.sign.0 x)) in
    let years : e.years ≡ d.years =
    greatest_if-unique (admits_years unit) (YearsSurpass c t u d.is_negative) e.years d.years
    (subst (λ (b : Bool). IsGreatestIf (admits_years unit) (YearsSurpass c t u b) e.years) back q.years) p.years in
    let months : e.months ≡ d.months =
    greatest_if-unique (admits_months unit) (MonthsSurpass c t u d.is_negative d.years) e.months d.months
    (subst (λ (b : Bool). IsGreatestIf (admits_months unit) (MonthsSurpass c t u b d.years) e.months) back
    (subst (λ (y : ℕ). IsGreatestIf (admits_months unit) (MonthsSurpass c t u e.is_negative y) e.months) years q.months)) p.months in
    let weeks : e.weeks ≡ d.weeks =
    greatest_if-unique (admits_weeks unit) (λ k. DaysSurpass c t u d.is_negative d.years d.months (7 * k)) e.weeks d.weeks
    (subst (λ (b : Bool). IsGreatestIf (admits_weeks unit) (λ k. DaysSurpass c t u b d.years d.months (7 * k)) e.weeks) back
    (subst (λ (y : ℕ). IsGreatestIf (admits_weeks unit) (λ k. DaysSurpass c t u e.is_negative y d.months (7 * k)) e.weeks) years
    (subst (λ (m : ℕ). IsGreatestIf (admits_weeks unit) (λ k. DaysSurpass c t u e.is_negative e.years m (7 * k)) e.weeks) months q.weeks))) p.weeks in
    let days : e.days ≡ d.days =
    greatest-unique (λ k. DaysSurpass c t u d.is_negative d.years d.months (7 * d.weeks + k)) e.days d.days
    (subst (λ (b : Bool). IsGreatest (λ k. DaysSurpass c t u b d.years d.months (7 * d.weeks + k)) e.days) back
    (subst (λ (y : ℕ). IsGreatest (λ k. DaysSurpass c t u e.is_negative y d.months (7 * d.weeks + k)) e.days) years
    (subst (λ (m : ℕ). IsGreatest (λ k. DaysSurpass c t u e.is_negative e.years m (7 * d.weeks + k)) e.days) months
    (subst (λ (w : ℕ). IsGreatest (λ k. DaysSurpass c t u e.is_negative e.years e.months (7 * w + k)) e.days) weeks q.days)))) p.days in
    let same : duration d.is_negative d.years d.months d.weeks d.days ≡ duration e.is_negative e.years e.months e.weeks e.days = cc in
    same

-- a fact, or that it does not hold
abbrev Decided : Type 0 → Type 0
Decided P = P ⊎ (P → ⊥)

not_past : (m d n e : ℕ) → m ≤ n → (n ≡ m → d ≤ e) → ¬ IsPast false m d n e
not_past m d n e le low (inl lt) = omega arith
not_past m d n e le low (inr (same, lt)) = let most = low same in omega arith

decided-ahead : (m d n e : ℕ) → Decided (IsPast false m d n e)
decided-ahead m d n e =
    by_lt {P = Decided (IsPast false m d n e)} n m (λ lt. inl (inl lt)) (λ ge.
    by_lt {P = Decided (IsPast false m d n e)} m n (λ lt. inr (not_past m d n e ge (λ same. absurd (omega arith)))) (λ le.
    let same : n ≡ m = omega arith in
    by_lt {P = Decided (IsPast false m d n e)} e d (λ lt. inl (inr (same, lt))) (λ low. inr (not_past m d n e ge (λ _. low)))))

decided-past : (back : Bool) (m d n e : ℕ) → Decided (IsPast back m d n e)
decided-past false m d n e = decided-ahead m d n e
decided-past true m d n e = decided-ahead n e m d

decided-day : (back : Bool) (d e : ℕ) → Decided (IsPastDay back d e)
decided-day false d e = by_lt {P = Decided (e < d)} e d (λ lt. inl lt) (λ ge. inr (λ lt. omega arith))
decided-day true d e = by_lt {P = Decided (d < e)} d e (λ lt. inl lt) (λ ge. inr (λ lt. omega arith))

decided-or : {P Q : Type 0} → Decided P → Decided Q → Decided (P ⊎ Q)
decided-or {P} {Q} (inl p) other = inl (inl p)
decided-or {P} {Q} (inr p) (inl q) = inl (inr q)
decided-or {P} {Q} (inr p) (inr q) = inr neither where
  neither : P ⊎ Q → ⊥
  neither (inl x) = p x
  neither (inr x) = q x

-- there is a greatest number of years
pub greatest_years-exist : (c : CalendarList) → IsLawful c → (back : Bool) (t u : Date) → IsDate c t → IsDate c u → Leads c back t u → (years : ℕ) × IsGreatest (YearsSurpass c t u back) years
greatest_years-exist c law back t u h k leads =
    choose (decided-or
    (decided-past back (month_rank (month_at c t.year t.month)) t.day (month_rank (month_at c u.year u.month)) u.day)
    (decided-past back i t.day u.month u.day)) where
      stands : (j : ℕ) × (spot c u.year (month_at c t.year t.month) Constrain ≡ Some j)
      stands = law.stands u.year (month_at c t.year t.month) (law.kind t.year t.month h.place)

      i : ℕ
      i = stands.0

      n : ℕ
      n = unsigned_abs (u.year -ℤ t.year)

      apart : u.year ≡ t.year +ℤ toward back n
      apart = leads-years c back t u h k leads

      choose : Decided (SurpassesInYear c back t u i) → (years : ℕ) × IsGreatest (YearsSurpass c t u back) years
      choose (inr short) = (n, greatest-years c back t u n i apart stands.1 short)
      choose (inl past) =
          by_lt {P = (years : ℕ) × IsGreatest (YearsSurpass c t u back) years} 0 n
          (λ some. (n - 1, greatest-years_less c back t u n i apart stands.1 some past))
          (λ none.
          let zero_years : n ≡ 0 = omega arith in
          let same : t.year ≡ u.year = sym (subst (λ (m : ℕ). u.year ≡ t.year +ℤ toward back m) zero_years apart ∙ toward-zero back t.year) in
          absurd (years-one_year c law back t u i h k leads same stands.1 past))

-- how many months lie between two of them
months-apart : (c : CalendarList) (back : Bool) (y : ℤ) (i : ℕ) (z : ℤ) (j : ℕ) → IsMonthOrder c back y i z j → month_number c z j ≡ month_number c y i +ℤ toward back (unsigned_abs (month_number c z j -ℤ month_number c y i))
months-apart c false y i z j order = grind (arith, signed)
months-apart c true y i z j order = grind (arith, signed)

-- and then a greatest number of months
pub greatest_months-exist : (c : CalendarList) → IsLawful c → (back : Bool) (t u : Date) → IsDate c t → IsDate c u → (years : ℕ) → ¬ YearsSurpass c t u back years → (months : ℕ) × IsGreatest (MonthsSurpass c t u back years) months
greatest_months-exist c law back t u h k years short = choose (decided-day back t.day u.day) where
  y : ℤ
  y = t.year +ℤ toward back years

  stands : (j : ℕ) × (spot c y (month_at c t.year t.month) Constrain ≡ Some j)
  stands = law.stands y (month_at c t.year t.month) (law.kind t.year t.month h.place)

  i : ℕ
  i = stands.0

  here : HasPlace c y i
  here = spot-place c y (month_at c t.year t.month) Constrain i stands.1

  n : ℕ
  n = unsigned_abs (month_number c u.year u.month -ℤ month_number c y i)

  apart : month_number c u.year u.month ≡ month_number c y i +ℤ toward back n
  apart = months-apart c back y i u.year u.month (within-order c back y i t.day u.year u.month u.day here k.place (λ beyond. short (inr (i, stands.1, beyond))))

  choose : Decided (IsPastDay back t.day u.day) → (months : ℕ) × IsGreatest (MonthsSurpass c t u back years) months
  choose (inr before) = (n, greatest-months c law back t u years i stands.1 k.place n apart before)
  choose (inl past) =
      by_lt {P = (months : ℕ) × IsGreatest (MonthsSurpass c t u back years) months} 0 n
      (λ some. (n - 1, greatest-months_less c law back t u years i stands.1 k.place n apart some past))
      (λ none.
      let zero_months : n ≡ 0 = omega arith in
      let level : month_number c u.year u.month ≡ month_number c y i = subst (λ (m : ℕ). month_number c u.year u.month ≡ month_number c y i +ℤ toward back m) zero_months apart ∙ toward-zero back (month_number c y i) in
      let same = month_number-injective c y i u.year u.month here k.place (sym level) in
      absurd (short (inr (i, stands.1, past_day-beyond back y i u.year u.month t.day u.day same.0 same.1 past))))

-- the month that years and months lead to, and the days that are left from there
pub record IsLeft (c : CalendarList) (t u : Date) (back : Bool) (years months : ℕ) (left : ℕ) : Type 0 where
  pub year : ℤ
  pub month : ℕ
  pub reaches : Reaches c t back years months year month
  pub apart : day_number c u ≡ day_number c (base c t year month) +ℤ toward back left

-- there are days left, where the months do not surpass
pub days_left-exist : (c : CalendarList) → IsLawful c → (back : Bool) (t u : Date) → IsDate c t → IsDate c u → (years months : ℕ) → ¬ MonthsSurpass c t u back years months → (left : ℕ) × IsLeft c t u back years months left
days_left-exist c law back t u h k years months short =
    let y = t.year +ℤ toward back years in
    let stands = law.stands y (month_at c t.year t.month) (law.kind t.year t.month h.place) in
    let found = month-finds c law (month_number c y stands.0 +ℤ toward back months) in
    let reach : Reaches c t back years months found.0 found.1 = record { from = stands.0; spot_is = stands.1; moved = record { place = found.2; moved = found.3 } } in
    let within = base-within c law back t u found.0 found.1 found.2 h.day.0 k (λ beyond. short (found.0, found.1, reach, beyond)) in
    let n = day_number c (base c t found.0 found.1) in (
      unsigned_abs (day_number c u -ℤ n),
      record {
        year = found.0;
        month = found.1;
        reaches = reach;
        apart = days-left back n (day_number c u) within;
      },
    )

-- the whole weeks that are left, and the other days
pub greatest_weeks-left : (c : CalendarList) (t u : Date) (back : Bool) (years months left w d : ℕ) → IsLeft c t u back years months left → 7 * w + d ≡ left → d < 7 → IsGreatest (λ k. DaysSurpass c t u back years months (7 * k)) w
greatest_weeks-left c t u back years months left w d l sum lt =
    greatest-weeks c back t u years months l.year l.month l.reaches left l.apart w d sum lt

-- the days that are left after some weeks
pub greatest_days-left : (c : CalendarList) (t u : Date) (back : Bool) (years months left w d : ℕ) → IsLeft c t u back years months left → 7 * w + d ≡ left → IsGreatest (λ k. DaysSurpass c t u back years months (7 * w + k)) d
greatest_days-left c t u back years months left w d l sum =
    greatest-days c back t u years months l.year l.month l.reaches left l.apart (7 * w) d sum

int_lt-true : (a b : ℤ) → IsTrue (int_lt a b) ↔ (a <ℤ b)
int_lt-true a b = ((λ h. grind (arith, ints)), (λ h. grind (arith, ints)))

-- what an admitted unit counts, and that it does not surpass
abbrev Counted : Bool → (ℕ → Type 0) → Type 0
Counted b Surpasses = (k : ℕ) × IsGreatestIf b Surpasses k × (Surpasses k → ⊥)

counted : (b : Bool) (Surpasses : ℕ → Type 0) → (b ≡ true → (k : ℕ) × IsGreatest Surpasses k) → ¬ Surpasses 0 → Counted b Surpasses
counted true Surpasses greatest none = let g = greatest refl in (g.0, g.1, g.1.within)
counted false Surpasses greatest none = (0, refl, none)

months_surpass-not_zero : (c : CalendarList) → IsLawful c → (back : Bool) (t u : Date) → IsDate c t → (years : ℕ) → ¬ YearsSurpass c t u back years → ¬ MonthsSurpass c t u back years 0
months_surpass-not_zero c law back t u h years short =
    let y = t.year +ℤ toward back years in
    let stands = law.stands y (month_at c t.year t.month) (law.kind t.year t.month h.place) in
    months_surpass-none c back t u years stands.0 y refl stands.1 (λ beyond. short (inr (stands.0, stands.1, beyond)))

-- two dates have a difference in each unit
pub difference-exists : (c : CalendarList) → IsLawful c → (t u : Date) → IsDate c t → IsDate c u → (unit : DateDurationUnit) → (d : DateDuration) × IsDifference c t u unit d
difference-exists c law t u h k unit = (
  duration back years.0 months.0 weeks.0 weeks.1,
  record {
    sign = sign;
    years = years.1;
    months = months.1;
    weeks = weeks.2;
    days = weeks.3;
  },
) where
  back : Bool
  back = int_lt (day_number c u) (day_number c t)

  sign : IsTrue back ↔ (day_number c u <ℤ day_number c t)
  sign = int_lt-true (day_number c u) (day_number c t)

  leads : Leads c back t u
  leads = leads-of c back t u sign.0 sign.1

  years : Counted (admits_years unit) (YearsSurpass c t u back)
  years = counted (admits_years unit) (YearsSurpass c t u back) (λ _. greatest_years-exist c law back t u h k leads) (years_surpass-none c law back t u h k leads)

  months : Counted (admits_months unit) (MonthsSurpass c t u back years.0)
  months = counted (admits_months unit) (MonthsSurpass c t u back years.0) (λ _. greatest_months-exist c law back t u h k years.0 years.2) (months_surpass-not_zero c law back t u h years.0 years.2)

  left : (n : ℕ) × IsLeft c t u back years.0 months.0 n
  left = days_left-exist c law back t u h k years.0 months.0 months.2

  split : (b : Bool) → (w : ℕ) × (d : ℕ) × IsGreatestIf b (λ k. DaysSurpass c t u back years.0 months.0 (7 * k)) w × IsGreatest (λ k. DaysSurpass c t u back years.0 months.0 (7 * w + k)) d
  split true = (
    left.0 / 7,
    left.0 % 7,
    greatest_weeks-left c t u back years.0 months.0 left.0 (left.0 / 7) (left.0 % 7) left.1 (omega arith) (omega arith),
    greatest_days-left c t u back years.0 months.0 left.0 (left.0 / 7) (left.0 % 7) left.1 (omega arith),
  )
  split false = (0, left.0, refl, greatest_days-left c t u back years.0 months.0 left.0 0 left.0 left.1 (omega arith))

  weeks : (w : ℕ) × (d : ℕ) × IsGreatestIf (admits_weeks unit) (λ k. DaysSurpass c t u back years.0 months.0 (7 * k)) w × IsGreatest (λ k. DaysSurpass c t u back years.0 months.0 (7 * w + k)) d
  weeks = split (admits_weeks unit)

-- no years and no months lead to the date's own month
pub reaches-own : (c : CalendarList) → IsLawful c → (back : Bool) (t : Date) → IsDate c t → (years months : ℕ) → years ≡ 0 → months ≡ 0 → Reaches c t back years months t.year t.month
reaches-own c law back t h years months no_years no_months =
    let same : t.year ≡ t.year +ℤ toward back years = sym (ap (λ (n : ℕ). t.year +ℤ toward back n) no_years ∙ toward-zero back t.year) in
    let own : spot c t.year (month_at c t.year t.month) Constrain ≡ Some t.month =
    spot-own c t.year (month_at c t.year t.month) Constrain t.month (place_of-own c t.year t.month (law.rises t.year) h.place) in
    let number : month_number c t.year t.month ≡ month_number c (t.year +ℤ toward back years) t.month +ℤ toward back months =
    ap (λ (x : ℤ). month_number c x t.month) same ∙ sym (ap (λ (n : ℕ). month_number c (t.year +ℤ toward back years) t.month +ℤ toward back n) no_months ∙ toward-zero back (month_number c (t.year +ℤ toward back years) t.month)) in
    record {
      from = t.month;
      spot_is = subst (λ (y : ℤ). spot c y (month_at c t.year t.month) Constrain ≡ Some t.month) same own;
      moved = record { place = h.place; moved = number };
    }

-- the date itself stands for its day
pub base-own : (c : CalendarList) (t : Date) → IsDate c t → base c t t.year t.month ≡ t
base-own c t h =
    let last : min t.day (month_length c t.year t.month) ≡ t.day = omega (arith, h.day) in
    let same : date t.year t.month (min t.day (month_length c t.year t.month)) ≡ date t.year t.month t.day = ap (date t.year t.month) last in
    same

-- without years and months, all days between the dates are left
pub days_left-own : (c : CalendarList) → IsLawful c → (back : Bool) (t u : Date) → IsDate c t → Leads c back t u → (years months : ℕ) → years ≡ 0 → months ≡ 0 → IsLeft c t u back years months (unsigned_abs (day_number c u -ℤ day_number c t))
days_left-own c law back t u h leads years months no_years no_months = record {
  year = t.year;
  month = t.month;
  reaches = reaches-own c law back t h years months no_years no_months;
  apart =
      let here : day_number c (base c t t.year t.month) ≡ day_number c t = ap (day_number c) (base-own c t h) in
      days-left back (day_number c t) (day_number c u) (toward_it back leads) ∙ sym (ap (λ (n : ℤ). n +ℤ toward back (unsigned_abs (day_number c u -ℤ day_number c t))) here);
} where
  toward_it : (back : Bool) → Leads c back t u → ¬ IsBeyondDay back (day_number c t) (day_number c u)
  toward_it false le lt = omega (arith, signed)
  toward_it true le lt = omega (arith, signed)

-- the difference in days
pub days-difference : (c : CalendarList) → IsLawful c → (t u : Date) → IsDate c t → (d : DateDuration) → (IsTrue d.is_negative ↔ (day_number c u <ℤ day_number c t)) → d.years ≡ 0 → d.months ≡ 0 → d.weeks ≡ 0 → d.days ≡ unsigned_abs (day_number c u -ℤ day_number c t) → IsDifference c t u Days d
days-difference c law t u h d sign no_years no_months no_weeks all =
    let left = days_left-own c law d.is_negative t u h (leads-of c d.is_negative t u sign.0 sign.1) d.years d.months no_years no_months in
    let sum : 7 * d.weeks + d.days ≡ unsigned_abs (day_number c u -ℤ day_number c t) = omega arith in
    record {
      sign = sign;
      years = no_years;
      months = no_months;
      weeks = no_weeks;
      days = greatest_days-left c t u d.is_negative d.years d.months _ d.weeks d.days left sum;
    }
