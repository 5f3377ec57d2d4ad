-- A difference, added to the first date, gives the second; and it is small enough to be added.
use Rattle.std.proofs.Common.{◌≡◌, inl, inr, ℕ, ◌+◌, ◌*◌, ◌<◌, ◌≤◌, Bool, true, false, min, Some, Ok, refl, sym, ap, subst, ◌∙◌, arith, unsigned_abs, ℤ, pos, neg_ℤ, ◌+ℤ◌, ◌-ℤ◌}
use Rattle.std.proofs.lemmas.Int.{by_lt_z}
use Rattle.std.proofs.lemmas.Bool.Decides.{nat_tests}
use Rattle.cal_types.specs.declared.options.Overflow.TheVariants.{Constrain}
use Rattle.cal_types.specs.declared.duration.DateDuration.{DateDuration}
use Rattle.cal_types.specs.declared.duration.DateDurationUnit.{DateDurationUnit}
use Rattle.cal_days.specs.Day.{IsFieldYear, IsValidDay, is_valid_day, is_field_year}
use Rattle.cal_types.specs.CalendarList.{CalendarList, Date, date, month_at, month_length, month_number, spot, day_number, HasPlace, IsDate, IsLawful, IsValidDate}
use Rattle.cal_types.specs.Adding.{is_addable, IsSum}
use Rattle.cal_types.specs.WithinYear.{Leads}
use Rattle.cal_types.specs.Difference.{toward, IsBeyondDay, YearsSurpass, MonthsSurpass, IsGreatestIf, admits_years, admits_months, IsDifference}
use Rattle.cal_days.proofs.Signed.{signed, by_lt}
use Rattle.cal_days.proofs.RangeLemmas.{true-is_between}
use Rattle.cal_types.proofs.ListLemmas.{place_of-own, spot-own, spot-place, month_number-order}
use Rattle.cal_types.proofs.DifferenceLemmas.{IsMonthOrder, IsBaseNear, base, base-near, leads-of, months_surpass-far, toward-zero, within-order, years-between, years_surpass-none}

-- days that do not surpass, and would with one more, lead to the day itself
meets : (back : Bool) (n m : ℤ) (k : ℕ) → ¬ IsBeyondDay back (n +ℤ toward back k) m → IsBeyondDay back (n +ℤ toward back (k + 1)) m → n +ℤ toward back k ≡ m
meets false n m k short past =
    by_lt_z {P = n +ℤ toward false k ≡ m} m (n +ℤ pos k) (λ lt. absurd (short lt)) (λ le. omega (arith, signed, past))
meets true n m k short past =
    by_lt_z {P = n +ℤ toward true k ≡ m} (n +ℤ neg_ℤ (pos k)) m (λ lt. absurd (short lt)) (λ le. omega (arith, signed, past))

-- the difference added to the first date gives the second, where the duration and the year that it leads to are within the limits of adding
pub added_back : (c : CalendarList) (shift : ℤ) (t u : Date) (unit : DateDurationUnit) (d : DateDuration) → IsDifference c t u unit d → IsDate c u → is_valid_day (day_number c u) ≡ true → is_addable d ≡ true → is_field_year (t.year +ℤ toward d.is_negative d.years +ℤ shift) ≡ true → IsSum c shift t d Constrain (Ok u)
added_back c shift t u unit d diff h valid addable field =
    let past = diff.days.most (d.days + 1) (omega arith) in
    let z = past.0 in let j = past.1 in let reach = past.2 in
    let n = day_number c (date z j (min t.day (month_length c z j))) in
    let more : 7 * d.weeks + (d.days + 1) ≡ 7 * d.weeks + d.days + 1 = omega arith in
    let day : n +ℤ toward d.is_negative (7 * d.weeks + d.days) ≡ day_number c u = meets d.is_negative n (day_number c u) (7 * d.weeks + d.days) (λ beyond. diff.days.within (z, j, reach, beyond)) (subst (λ (k : ℕ). IsBeyondDay d.is_negative (n +ℤ toward d.is_negative k) (day_number c u)) more past.3) in
    rw (addable, field, reach.spot_is)
    (z, j, reach.moved, rw (day, valid) (u, record { date = h; day = refl }, refl))

-- a number that is the greatest where its unit is admitted, and else 0, does not surpass
greatest_if-within : (b : Bool) (Surpasses : ℕ → Type 0) (k : ℕ) → ¬ Surpasses 0 → IsGreatestIf b Surpasses k → ¬ Surpasses k
greatest_if-within true Surpasses k none greatest past = greatest.within past
greatest_if-within false Surpasses k none zero_is past = none (subst Surpasses zero_is past)

-- years that do not surpass stay between the years, also where the years are counted from another one
years-shifted : (c : CalendarList) (back : Bool) (shift : ℤ) (t u : Date) (n : ℕ) → ¬ YearsSurpass c t u back n → IsFieldYear (t.year +ℤ shift) → IsFieldYear (u.year +ℤ shift) → IsFieldYear (t.year +ℤ toward back n +ℤ shift)
years-shifted c false shift t u n short p q =
    by_lt_z {P = IsFieldYear (t.year +ℤ pos n +ℤ shift)} u.year (t.year +ℤ pos n) (λ lt. absurd (short (inl (inl lt)))) (λ le. (omega (arith, signed, p, q), omega (arith, signed, p, q)))
years-shifted c true shift t u n short p q =
    by_lt_z {P = IsFieldYear (t.year +ℤ neg_ℤ (pos n) +ℤ shift)} (t.year +ℤ neg_ℤ (pos n)) u.year (λ lt. absurd (short (inl (inl lt)))) (λ le. (omega (arith, signed, p, q), omega (arith, signed, p, q)))

years-few : (back : Bool) (y : ℤ) (n : ℕ) → IsFieldYear y → IsFieldYear (y +ℤ toward back n) → n ≤ 2080000
years-few false y n p q = omega (arith, signed, p, q)
years-few true y n p q = omega (arith, signed, p, q)

-- the month that years lead to is the first date's own or further in the direction of counting
start-order : (c : CalendarList) → IsLawful c → (back : Bool) (t : Date) → IsDate c t → (years i : ℕ) → spot c (t.year +ℤ toward back years) (month_at c t.year t.month) Constrain ≡ Some i → IsMonthOrder c back t.year t.month (t.year +ℤ toward back years) i
start-order c law back t h years i s =
    by_lt {P = IsMonthOrder c back t.year t.month (t.year +ℤ toward back years) i} 0 years (later back here) (λ le.
    let none : years ≡ 0 = omega arith in
    let same : t.year +ℤ toward back years ≡ t.year = ap (λ (n : ℕ). t.year +ℤ toward back n) none ∙ toward-zero back t.year in
    let own : spot c t.year (month_at c t.year t.month) Constrain ≡ Some t.month = spot-own c t.year (month_at c t.year t.month) Constrain t.month (place_of-own c t.year t.month (law.rises t.year) h.place) in
    let found : Some i ≡ Some t.month = sym s ∙ ap (λ (y : ℤ). spot c y (month_at c t.year t.month) Constrain) same ∙ own in
    let place : i ≡ t.month = cc in
    level back (ap (λ (y : ℤ). month_number c y i) same ∙ ap (month_number c t.year) place)) where
      here : HasPlace c (t.year +ℤ toward back years) i
      here = spot-place c (t.year +ℤ toward back years) (month_at c t.year t.month) Constrain i s

      later : (b : Bool) → HasPlace c (t.year +ℤ toward b years) i → 0 < years → IsMonthOrder c b t.year t.month (t.year +ℤ toward b years) i
      later false there some = omega (arith, signed, month_number-order c t.year t.month (t.year +ℤ pos years) i h.place there (inl (omega (arith, signed))))
      later true there some = omega (arith, signed, month_number-order c (t.year +ℤ neg_ℤ (pos years)) i t.year t.month there h.place (inl (omega (arith, signed))))

      level : (b : Bool) → month_number c (t.year +ℤ toward back years) i ≡ month_number c t.year t.month → IsMonthOrder c b t.year t.month (t.year +ℤ toward back years) i
      level false e = omega (arith, signed)
      level true e = omega (arith, signed)

-- so no more months lie between it and the second date than between the dates
months-fewer : (c : CalendarList) (back : Bool) (y : ℤ) (i : ℕ) (x : ℤ) (j : ℕ) (z : ℤ) (k : ℕ) → IsMonthOrder c back y i x j → IsMonthOrder c back x j z k → unsigned_abs (month_number c z k -ℤ month_number c x j) ≤ unsigned_abs (month_number c z k -ℤ month_number c y i)
months-fewer c false y i x j z k p q = omega (arith, signed)
months-fewer c true y i x j z k p q = omega (arith, signed)

months-toward : (c : CalendarList) (back : Bool) (y : ℤ) (i : ℕ) (z : ℤ) (j : ℕ) → IsMonthOrder c back y i z j → month_number c z j ≡ month_number c y i +ℤ toward back (unsigned_abs (month_number c z j -ℤ month_number c y i))
months-toward c false y i z j order = grind (arith, signed)
months-toward c true y i z j order = grind (arith, signed)

-- months that do not surpass are no more than lie between the dates
months-few : (c : CalendarList) → IsLawful c → (back : Bool) (t u : Date) → IsDate c t → IsDate c u → (years months : ℕ) → ¬ YearsSurpass c t u back years → ¬ MonthsSurpass c t u back years months → months ≤ unsigned_abs (month_number c u.year u.month -ℤ month_number c t.year t.month)
months-few c law back t u h k years months short within =
    let y = t.year +ℤ toward back years in
    let stands = law.stands y (month_at c t.year t.month) (law.kind t.year t.month h.place) in
    let i = stands.0 in
    let here = spot-place c y (month_at c t.year t.month) Constrain i stands.1 in
    let order = within-order c back y i t.day u.year u.month u.day here k.place (λ beyond. short (inr (i, stands.1, beyond))) in
    let n = unsigned_abs (month_number c u.year u.month -ℤ month_number c y i) in
    let fewer = months-fewer c back t.year t.month y i u.year u.month (start-order c law back t h years i stands.1) order in
    by_lt {P = months ≤ unsigned_abs (month_number c u.year u.month -ℤ month_number c t.year t.month)} n months
    (λ lt. absurd (within (months_surpass-far c law back t u years i stands.1 k.place n (months-toward c back y i u.year u.month order) months lt)))
    (λ le. omega (arith, fewer))

days-few : (back : Bool) (n m b : ℤ) (k : ℕ) → IsBaseNear back n b → ¬ IsBeyondDay back (b +ℤ toward back k) m → IsValidDay n → IsValidDay m → k ≤ 838240000
days-few false n m b k near short p q =
    by_lt_z {P = k ≤ 838240000} m (b +ℤ pos k) (λ lt. absurd (short lt)) (λ le. omega (arith, signed, near, p, q))
days-few true n m b k near short p q =
    by_lt_z {P = k ≤ 838240000} (b +ℤ neg_ℤ (pos k)) m (λ lt. absurd (short lt)) (λ le. omega (arith, signed, near, p, q))

module _ (c : CalendarList) (law : IsLawful c) (t u : Date) (h : IsValidDate c t) (k : IsValidDate c u) (unit : DateDurationUnit) (d : DateDuration) (diff : IsDifference c t u unit d) where
  -- a difference goes toward the second date
  difference-leads : Leads c d.is_negative t u
  difference-leads = leads-of c d.is_negative t u diff.sign.0 diff.sign.1

  -- and its years do not surpass
  difference-years : ¬ YearsSurpass c t u d.is_negative d.years
  difference-years = greatest_if-within (admits_years unit) (YearsSurpass c t u d.is_negative) d.years (years_surpass-none c law d.is_negative t u h.date k.date difference-leads) diff.years

  -- it is small enough to be added, where the months between the dates are
  pub difference-addable : IsFieldYear t.year → IsFieldYear u.year → unsigned_abs (month_number c u.year u.month -ℤ month_number c t.year t.month) ≤ 27040000 → is_addable d ≡ true
  difference-addable p q apart =
      let years = years-few d.is_negative t.year d.years p (years-between c d.is_negative t u d.years difference-years p q) in
      let months = months_of (admits_months unit) diff.months in
      let past = diff.days.most (d.days + 1) (omega arith) in
      let near = base-near c law d.is_negative t d.years d.months past.0 past.1 past.2 h.date in
      let days = days-few d.is_negative (day_number c t) (day_number c u) (day_number c (base c t past.0 past.1)) (7 * d.weeks + d.days) near (λ beyond. diff.days.within (past.0, past.1, past.2, beyond)) h.valid k.valid in
      grind (arith, nat_tests, years, months, days) where
        months_of : (b : Bool) → IsGreatestIf b (MonthsSurpass c t u d.is_negative d.years) d.months → d.months ≤ 27040000
        months_of true greatest = omega (arith, apart, months-few c law d.is_negative t u h.date k.date d.years d.months difference-years greatest.within)
        months_of false none = omega arith

  -- the difference of two valid dates, added to the first under Constrain, gives the second
  pub difference-added_back : (shift : ℤ) → IsFieldYear t.year → IsFieldYear u.year → IsFieldYear (t.year +ℤ shift) → IsFieldYear (u.year +ℤ shift) → unsigned_abs (month_number c u.year u.month -ℤ month_number c t.year t.month) ≤ 27040000 → IsSum c shift t d Constrain (Ok u)
  difference-added_back shift p q ps qs apart =
      added_back c shift t u unit d diff k.date (true-is_between _ _ (day_number c u) k.valid) (difference-addable p q apart)
      (true-is_between _ _ (t.year +ℤ toward d.is_negative d.years +ℤ shift) (years-shifted c d.is_negative shift t u d.years difference-years ps qs))
