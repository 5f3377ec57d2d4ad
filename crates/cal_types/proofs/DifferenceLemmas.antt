-- The greatest numbers of years, months and days that do not surpass.
use Rattle.std.proofs.Common.{◌≡◌, ℕ, ◌+◌, ◌-◌, ◌*◌, ◌<◌, ◌≤◌, ◌⊎◌, inl, inr, Bool, true, false, min, Some, refl, sym, ap, subst, ◌∙◌, arith, unsigned_abs, ℤ, pos, neg_ℤ, ◌+ℤ◌, ◌-ℤ◌, ◌<ℤ◌, ◌≤ℤ◌}
use Rattle.std.proofs.lemmas.Int.{by_lt_z}
use Rattle.cal_types.specs.Month.{month_rank}
use Rattle.cal_types.specs.declared.options.Overflow.TheVariants.{Constrain}
use Rattle.cal_types.specs.declared.duration.DateDurationUnit.{DateDurationUnit}
use Rattle.cal_types.specs.declared.duration.DateDurationUnit.TheVariants.{Years, Months, Weeks, Days}
use Rattle.cal_days.specs.Day.{IsFieldYear, IsValidDay}
use Rattle.cal_types.specs.CalendarList.{CalendarList, Date, date, month_at, month_length, spot, day_number, HasPlace, IsDate, IsBefore, IsLawful, start_of_year, month_number}
use Rattle.cal_types.specs.WithinYear.{Leads, IsPast, IsPastDay, SurpassesInYear}
use Rattle.cal_types.specs.Difference.{toward, IsBeyond, IsBeyondDay, YearsSurpass, Reaches, MonthsSurpass, DaysSurpass, IsGreatest, IsGreatestIf, admits_years}
use Rattle.cal_days.proofs.Signed.{signed, by_lt}
use Rattle.cal_types.proofs.ListLemmas.{day_number-rises, day_number-order, place_of-own, spot-own, spot-place, month_number-order, month_number-injective, month-finds, by_place_order, start_of_year-later, date-in_year, year_length-most}

-- no step leads nowhere
pub toward-zero : (back : Bool) (z : ℤ) → z +ℤ toward back 0 ≡ z
toward-zero false z = omega (arith, signed)
toward-zero true z = omega (arith, signed)

-- counting goes toward the second date
pub leads-not_beyond : (c : CalendarList) (back : Bool) (t u : Date) → IsDate c t → IsDate c u → Leads c back t u → ¬ IsBeyond back (t.year, t.month, t.day) (u.year, u.month, u.day)
leads-not_beyond c false t u h k leads beyond = omega (arith, signed, day_number-rises c u t k h beyond)
leads-not_beyond c true t u h k leads beyond = omega (arith, signed, day_number-rises c t u h k beyond)

-- more years than lie between the years surpass
pub years_surpass-far : (c : CalendarList) (back : Bool) (t u : Date) (n k : ℕ) → u.year ≡ t.year +ℤ toward back n → n < k → YearsSurpass c t u back k
years_surpass-far c false t u n k e lt = inl (inl (omega (arith, signed)))
years_surpass-far c true t u n k e lt = inl (inl (omega (arith, signed)))

-- and fewer do not
pub years_surpass-near : (c : CalendarList) (back : Bool) (t u : Date) (n k : ℕ) → u.year ≡ t.year +ℤ toward back n → k < n → ¬ YearsSurpass c t u back k
years_surpass-near c false t u n k e lt (inl (inl h)) = omega (arith, signed)
years_surpass-near c false t u n k e lt (inl (inr (h, f))) = omega (arith, signed)
years_surpass-near c false t u n k e lt (inr (i, s, inl h)) = omega (arith, signed)
years_surpass-near c false t u n k e lt (inr (i, s, inr (h, f))) = omega (arith, signed)
years_surpass-near c true t u n k e lt (inl (inl h)) = omega (arith, signed)
years_surpass-near c true t u n k e lt (inl (inr (h, f))) = omega (arith, signed)
years_surpass-near c true t u n k e lt (inr (i, s, inl h)) = omega (arith, signed)
years_surpass-near c true t u n k e lt (inr (i, s, inr (h, f))) = omega (arith, signed)

-- within one year, past is beyond
pub past-beyond : (back : Bool) (y z : ℤ) (m d n e : ℕ) → y ≡ z → IsPast back m d n e → IsBeyond back (y, m, d) (z, n, e)
past-beyond false y z m d n e same h = inr (sym same, h)
past-beyond true y z m d n e same h = inr (same, h)

-- and beyond is past within it
pub beyond-past : (back : Bool) (y z : ℤ) (m d n e : ℕ) → y ≡ z → IsBeyond back (y, m, d) (z, n, e) → IsPast back m d n e
beyond-past false y z m d n e same (inl h) = absurd (omega (arith, signed))
beyond-past false y z m d n e same (inr h) = h.1
beyond-past true y z m d n e same (inl h) = absurd (omega (arith, signed))
beyond-past true y z m d n e same (inr h) = h.1

-- months of a year are past one another as their places are
pub rank-place : (c : CalendarList) (law : IsLawful c) (back : Bool) (y : ℤ) (i j d e : ℕ) → HasPlace c y i → HasPlace c y j → IsPast back (month_rank (month_at c y i)) d (month_rank (month_at c y j)) e → IsPast back i d j e
rank-place c law back y i j d e h k past =
    by_lt {P = IsPast back i d j e} i j
    (λ lt. below back (law.rises y i j h k lt) lt past)
    (λ ge. by_lt {P = IsPast back i d j e} j i (λ lt. above back (law.rises y j i k h lt) lt past)
    (λ le. let same : i ≡ j = omega arith in level back same past)) where
      below : (back : Bool) → month_rank (month_at c y i) < month_rank (month_at c y j) → i < j → IsPast back (month_rank (month_at c y i)) d (month_rank (month_at c y j)) e → IsPast back i d j e
      below false rank lt (inl p) = absurd (omega arith)
      below false rank lt (inr p) = absurd (omega arith)
      below true rank lt p = inl lt

      above : (back : Bool) → month_rank (month_at c y j) < month_rank (month_at c y i) → j < i → IsPast back (month_rank (month_at c y i)) d (month_rank (month_at c y j)) e → IsPast back i d j e
      above false rank lt p = inl lt
      above true rank lt (inl p) = absurd (omega arith)
      above true rank lt (inr p) = absurd (omega arith)

      level : (back : Bool) → i ≡ j → IsPast back (month_rank (month_at c y i)) d (month_rank (month_at c y j)) e → IsPast back i d j e
      level false same (inl p) = absurd (omega (arith, ap (λ (n : ℕ). month_rank (month_at c y n)) same))
      level false same (inr p) = inr (sym same, p.1)
      level true same (inl p) = absurd (omega (arith, ap (λ (n : ℕ). month_rank (month_at c y n)) same))
      level true same (inr p) = inr (same, p.1)

years_surpass-here : (c : CalendarList) (back : Bool) (t u : Date) (n i : ℕ) → u.year ≡ t.year +ℤ toward back n → spot c u.year (month_at c t.year t.month) Constrain ≡ Some i → SurpassesInYear c back t u i → YearsSurpass c t u back n
years_surpass-here c back t u n i e s (inl p) = inl (past-beyond back _ _ _ _ _ _ (sym e) p)
years_surpass-here c back t u n i e s (inr p) =
    inr (i, subst (λ (y : ℤ). spot c y (month_at c t.year t.month) Constrain ≡ Some i) e s, past-beyond back _ _ _ _ _ _ (sym e) p)

some_same : {A : Type 0} {x y : A} → Some x ≡ Some y → x ≡ y
some_same e = cc

here-years_surpass : (c : CalendarList) (back : Bool) (t u : Date) (n i : ℕ) → u.year ≡ t.year +ℤ toward back n → spot c u.year (month_at c t.year t.month) Constrain ≡ Some i → YearsSurpass c t u back n → SurpassesInYear c back t u i
here-years_surpass c back t u n i e s (inl p) = inl (beyond-past back _ _ _ _ _ _ (sym e) p)
here-years_surpass c back t u n i e s (inr (j, r, p)) =
    let same : j ≡ i = some_same (sym (subst (λ (y : ℤ). spot c y (month_at c t.year t.month) Constrain ≡ Some j) (sym e) r) ∙ s) in
    inr (subst (λ (k : ℕ). IsPast back k t.day u.month u.day) same (beyond-past back _ _ _ _ _ _ (sym e) p))

-- the years between the years, where they do not surpass
pub greatest-years : (c : CalendarList) (back : Bool) (t u : Date) (n i : ℕ) → u.year ≡ t.year +ℤ toward back n → spot c u.year (month_at c t.year t.month) Constrain ≡ Some i → ¬ SurpassesInYear c back t u i → IsGreatest (YearsSurpass c t u back) n
greatest-years c back t u n i e s short = record {
  within = λ p. short (here-years_surpass c back t u n i e s p);
  most = λ j lt. years_surpass-far c back t u n j e lt;
}

-- and else one less
pub greatest-years_less : (c : CalendarList) (back : Bool) (t u : Date) (n i : ℕ) → u.year ≡ t.year +ℤ toward back n → spot c u.year (month_at c t.year t.month) Constrain ≡ Some i → 1 ≤ n → SurpassesInYear c back t u i → IsGreatest (YearsSurpass c t u back) (n - 1)
greatest-years_less c back t u n i e s some p = record {
  within = years_surpass-near c back t u n (n - 1) e (omega arith);
  most = λ j lt. by_lt {P = YearsSurpass c t u back j} n j (years_surpass-far c back t u n j e) (λ le.
      let same : n ≡ j = omega arith in
      subst (YearsSurpass c t u back) same (years_surpass-here c back t u n i e s p));
}

-- in one year nothing surpasses, since counting goes toward the second date
pub years-one_year : (c : CalendarList) (law : IsLawful c) (back : Bool) (t u : Date) (i : ℕ) → IsDate c t → IsDate c u → Leads c back t u → t.year ≡ u.year → spot c u.year (month_at c t.year t.month) Constrain ≡ Some i → ¬ SurpassesInYear c back t u i
years-one_year c law back t u i h k leads same s p =
    let here : HasPlace c u.year t.month = subst (λ (y : ℤ). HasPlace c y t.month) same h.place in
    let months = ap (λ (y : ℤ). month_at c y t.month) same in
    let own = spot-own c u.year (month_at c u.year t.month) Constrain t.month (place_of-own c u.year t.month (law.rises u.year) here) in
    let place : i ≡ t.month = some_same (sym (subst (λ m. spot c u.year m Constrain ≡ Some i) months s) ∙ own) in
    leads-not_beyond c back t u h k leads (past-beyond back _ _ _ _ _ _ same (either p here months place)) where
      either : SurpassesInYear c back t u i → HasPlace c u.year t.month → month_at c t.year t.month ≡ month_at c u.year t.month → i ≡ t.month → IsPast back t.month t.day u.month u.day
      either (inl p) here months place =
          rank-place c law back u.year t.month u.month t.day u.day here k.place (subst (λ m. IsPast back (month_rank m) t.day (month_rank (month_at c u.year u.month)) u.day) months p)
      either (inr p) here months place = subst (λ (j : ℕ). IsPast back j t.day u.month u.day) place p

-- how many years lie between the years
pub leads-years : (c : CalendarList) (back : Bool) (t u : Date) → IsDate c t → IsDate c u → Leads c back t u → u.year ≡ t.year +ℤ toward back (unsigned_abs (u.year -ℤ t.year))
leads-years c false t u h k leads =
    by_lt_z {P = u.year ≡ t.year +ℤ pos (unsigned_abs (u.year -ℤ t.year))} u.year t.year (λ lt. absurd (leads-not_beyond c false t u h k leads (inl lt))) (λ le. grind (arith, signed))
leads-years c true t u h k leads =
    by_lt_z {P = u.year ≡ t.year +ℤ neg_ℤ (pos (unsigned_abs (u.year -ℤ t.year)))} t.year u.year (λ lt. absurd (leads-not_beyond c true t u h k leads (inl lt))) (λ le. grind (arith, signed))

-- no years do not surpass
pub years_surpass-none : (c : CalendarList) (law : IsLawful c) (back : Bool) (t u : Date) → IsDate c t → IsDate c u → Leads c back t u → ¬ YearsSurpass c t u back 0
years_surpass-none c law back t u h k leads p =
    let e = leads-years c back t u h k leads in
    by_lt {P = ⊥} 0 (unsigned_abs (u.year -ℤ t.year))
    (λ lt. years_surpass-near c back t u (unsigned_abs (u.year -ℤ t.year)) 0 e lt p)
    (λ le.
    let none : unsigned_abs (u.year -ℤ t.year) ≡ 0 = omega arith in
    let same : u.year ≡ t.year +ℤ toward back 0 = subst (λ (n : ℕ). u.year ≡ t.year +ℤ toward back n) none e in
    let years : t.year ≡ u.year = sym (same ∙ toward-zero back t.year) in
    let stands = law.stands u.year (month_at c t.year t.month) (law.kind t.year t.month h.place) in
    years-one_year c law back t u stands.0 h k leads years stands.1 (here-years_surpass c back t u 0 stands.0 same stands.1 p))

-- months: those that the month reached by the years is from the second date's month
months_surpass-compare : (c : CalendarList) (back : Bool) (y : ℤ) (i : ℕ) (n k : ℕ) (z : ℤ) (j : ℕ) (u : Date) → month_number c u.year u.month ≡ month_number c y i +ℤ toward back n → month_number c z j ≡ month_number c y i +ℤ toward back k → HasPlace c z j → HasPlace c u.year u.month → (d : ℕ) → n < k → IsBeyond back (z, j, d) (u.year, u.month, u.day)
months_surpass-compare c false y i n k z j u e f p q d lt =
    by_place_order {P = IsBeyond false (z, j, d) (u.year, u.month, u.day)} z j u.year u.month
    (λ before. absurd (omega (arith, signed, month_number-order c z j u.year u.month p q before)))
    (λ after. beyond after)
    (λ years places. absurd (omega (arith, signed, ap (λ (x : ℤ). month_number c x j) years, ap (month_number c u.year) places))) where
      beyond : (u.year <ℤ z) ⊎ ((u.year ≡ z) × (u.month < j)) → IsBeyond false (z, j, d) (u.year, u.month, u.day)
      beyond (inl h) = inl h
      beyond (inr h) = inr (h.0, inl h.1)
months_surpass-compare c true y i n k z j u e f p q d lt =
    by_place_order {P = IsBeyond true (z, j, d) (u.year, u.month, u.day)} z j u.year u.month
    (λ before. beyond before)
    (λ after. absurd (omega (arith, signed, month_number-order c u.year u.month z j q p after)))
    (λ years places. absurd (omega (arith, signed, ap (λ (x : ℤ). month_number c x j) years, ap (month_number c u.year) places))) where
      beyond : (z <ℤ u.year) ⊎ ((z ≡ u.year) × (j < u.month)) → IsBeyond true (z, j, d) (u.year, u.month, u.day)
      beyond (inl h) = inl h
      beyond (inr h) = inr (h.0, inl h.1)

-- fewer months lead to an earlier month in the direction of counting
months_surpass-short : (c : CalendarList) (back : Bool) (y : ℤ) (i : ℕ) (n k : ℕ) (z : ℤ) (j : ℕ) (u : Date) → month_number c u.year u.month ≡ month_number c y i +ℤ toward back n → month_number c z j ≡ month_number c y i +ℤ toward back k → HasPlace c z j → HasPlace c u.year u.month → (d : ℕ) → k < n → ¬ IsBeyond back (z, j, d) (u.year, u.month, u.day)
months_surpass-short c false y i n k z j u e f p q d lt (inl h) = omega (arith, signed, month_number-order c u.year u.month z j q p (inl h))
months_surpass-short c false y i n k z j u e f p q d lt (inr (same, inl h)) = omega (arith, signed, month_number-order c u.year u.month z j q p (inr (same, h)))
months_surpass-short c false y i n k z j u e f p q d lt (inr (same, inr (places, h))) = omega (arith, signed, ap (λ (x : ℤ). month_number c x u.month) same, ap (month_number c z) places)
months_surpass-short c true y i n k z j u e f p q d lt (inl h) = omega (arith, signed, month_number-order c z j u.year u.month p q (inl h))
months_surpass-short c true y i n k z j u e f p q d lt (inr (same, inl h)) = omega (arith, signed, month_number-order c z j u.year u.month p q (inr (same, h)))
months_surpass-short c true y i n k z j u e f p q d lt (inr (same, inr (places, h))) = omega (arith, signed, ap (λ (x : ℤ). month_number c x j) same, ap (month_number c u.year) places)

-- within one month, past is beyond
pub past_day-beyond : (back : Bool) (z : ℤ) (j : ℕ) (y : ℤ) (i d e : ℕ) → z ≡ y → j ≡ i → IsPastDay back d e → IsBeyond back (z, j, d) (y, i, e)
past_day-beyond false z j y i d e same places p = inr (sym same, inr (sym places, p))
past_day-beyond true z j y i d e same places p = inr (same, inr (places, p))

beyond-past_day : (back : Bool) (z : ℤ) (j : ℕ) (y : ℤ) (i d e : ℕ) → z ≡ y → j ≡ i → IsBeyond back (z, j, d) (y, i, e) → IsPastDay back d e
beyond-past_day false z j y i d e same places (inl h) = absurd (omega (arith, signed))
beyond-past_day false z j y i d e same places (inr (f, inl h)) = absurd (omega arith)
beyond-past_day false z j y i d e same places (inr (f, inr h)) = h.1
beyond-past_day true z j y i d e same places (inl h) = absurd (omega (arith, signed))
beyond-past_day true z j y i d e same places (inr (f, inl h)) = absurd (omega arith)
beyond-past_day true z j y i d e same places (inr (f, inr h)) = h.1

module _ (c : CalendarList) (law : IsLawful c) (back : Bool) (t u : Date) (years i : ℕ) (spot_is : spot c (t.year +ℤ toward back years) (month_at c t.year t.month) Constrain ≡ Some i) (k : HasPlace c u.year u.month) (n : ℕ) (e : month_number c u.year u.month ≡ month_number c (t.year +ℤ toward back years) i +ℤ toward back n) where
  -- more months than lie between the months surpass
  pub months_surpass-far : (j : ℕ) → n < j → MonthsSurpass c t u back years j
  months_surpass-far j lt =
      let found = month-finds c law (month_number c (t.year +ℤ toward back years) i +ℤ toward back j) in
      let reach : Reaches c t back years j found.0 found.1 = record { from = i; spot_is = spot_is; moved = record { place = found.2; moved = found.3 } } in
      (found.0, found.1, reach, months_surpass-compare c back (t.year +ℤ toward back years) i n j found.0 found.1 u e found.3 found.2 k t.day lt)

  -- the number of the month that months lead to
  pub reached-number : (m : ℕ) (z : ℤ) (j : ℕ) → Reaches c t back years m z j → month_number c z j ≡ month_number c (t.year +ℤ toward back years) i +ℤ toward back m
  reached-number m z j r =
      let same : r.from ≡ i = some_same (sym r.spot_is ∙ spot_is) in
      r.moved.moved ∙ ap (λ (p : ℕ). month_number c (t.year +ℤ toward back years) p +ℤ toward back m) same

  -- and fewer do not
  pub months_surpass-near : (j : ℕ) → j < n → ¬ MonthsSurpass c t u back years j
  months_surpass-near j lt (z, p, r, beyond) =
      months_surpass-short c back (t.year +ℤ toward back years) i n j z p u e (reached-number j z p r) r.moved.place k t.day lt beyond

  -- the months between the months, where the day is not past
  pub greatest-months : ¬ IsPastDay back t.day u.day → IsGreatest (MonthsSurpass c t u back years) n
  greatest-months short = record {
    within = λ (z, p, r, beyond).
        let same = month_number-injective c z p u.year u.month r.moved.place k (reached-number n z p r ∙ sym e) in
        short (beyond-past_day back z p u.year u.month t.day u.day same.0 same.1 beyond);
    most = months_surpass-far;
  }

  -- and else one less
  pub greatest-months_less : 1 ≤ n → IsPastDay back t.day u.day → IsGreatest (MonthsSurpass c t u back years) (n - 1)
  greatest-months_less some past = record {
    within = months_surpass-near (n - 1) (omega arith);
    most = λ j lt. by_lt {P = MonthsSurpass c t u back years j} n j (months_surpass-far j) (λ le.
        let same : n ≡ j = omega arith in
        let reach : Reaches c t back years n u.year u.month = record { from = i; spot_is = spot_is; moved = record { place = k; moved = e } } in
        subst (MonthsSurpass c t u back years) same (u.year, u.month, reach, past_day-beyond back u.year u.month u.year u.month t.day u.day refl refl past));
  }

-- years and months lead to one month
pub reach-unique : (c : CalendarList) (back : Bool) (t : Date) (years months : ℕ) (z : ℤ) (j : ℕ) (y : ℤ) (i : ℕ) → Reaches c t back years months z j → Reaches c t back years months y i → (z ≡ y) × (j ≡ i)
reach-unique c back t years months z j y i r s =
    let same : r.from ≡ s.from = some_same (sym r.spot_is ∙ s.spot_is) in
    month_number-injective c z j y i r.moved.place s.moved.place
    (r.moved.moved ∙ ap (λ (p : ℕ). month_number c (t.year +ℤ toward back years) p +ℤ toward back months) same ∙ sym s.moved.moved)

-- the day in a month that stands for a day which may be too high
abbrev pub base : CalendarList → Date → ℤ → ℕ → Date
base c t z j = date z j (min t.day (month_length c z j))

-- that day is one of its month
pub base-date : (c : CalendarList) (law : IsLawful c) (t : Date) (z : ℤ) (j : ℕ) → HasPlace c z j → 1 ≤ t.day → IsDate c (base c t z j)
base-date c law t z j h some = record { place = h; day = omega (arith, law.lengths z j h) }

-- where the months do not surpass, that day is not past the second date
pub base-within : (c : CalendarList) (law : IsLawful c) (back : Bool) (t u : Date) (z : ℤ) (j : ℕ) → HasPlace c z j → 1 ≤ t.day → IsDate c u → ¬ IsBeyond back (z, j, t.day) (u.year, u.month, u.day) → ¬ IsBeyondDay back (day_number c (base c t z j)) (day_number c u)
base-within c law false t u z j h some k short lt = short (beyond (day_number-order c u (base c t z j) k (base-date c law t z j h some) lt)) where
  beyond : IsBefore (u.year, u.month, u.day) (z, j, min t.day (month_length c z j)) → IsBefore (u.year, u.month, u.day) (z, j, t.day)
  beyond (inl p) = inl p
  beyond (inr (p, inl q)) = inr (p, inl q)
  beyond (inr (p, inr q)) = inr (p, inr (q.0, omega arith))
base-within c law true t u z j h some k short lt = short (beyond (day_number-order c (base c t z j) u (base-date c law t z j h some) k lt)) where
  beyond : IsBefore (z, j, min t.day (month_length c z j)) (u.year, u.month, u.day) → IsBefore (z, j, t.day) (u.year, u.month, u.day)
  beyond (inl p) = inl p
  beyond (inr (p, inl q)) = inr (p, inl q)
  beyond (inr (p, inr q)) =
      let last : month_length c z j ≡ month_length c u.year u.month = ap (λ (y : ℤ). month_length c y j) p ∙ ap (month_length c u.year) q.0 in
      inr (p, inr (q.0, omega (arith, k.day)))

-- days surpass where they are more than those that are left
days_beyond : (back : Bool) (n m : ℤ) (total k : ℕ) → m ≡ n +ℤ toward back total → total < k → IsBeyondDay back (n +ℤ toward back k) m
days_beyond false n m total k e lt = omega (arith, signed)
days_beyond true n m total k e lt = omega (arith, signed)

days_within : (back : Bool) (n m : ℤ) (total k : ℕ) → m ≡ n +ℤ toward back total → k ≤ total → ¬ IsBeyondDay back (n +ℤ toward back k) m
days_within false n m total k e le h = omega (arith, signed)
days_within true n m total k e le h = omega (arith, signed)

module _ (c : CalendarList) (back : Bool) (t u : Date) (years months : ℕ) (z : ℤ) (j : ℕ) (r : Reaches c t back years months z j) (total : ℕ) (e : day_number c u ≡ day_number c (base c t z j) +ℤ toward back total) where
  -- more days than are left surpass
  pub days_surpass : (k : ℕ) → total < k → DaysSurpass c t u back years months k
  days_surpass k lt = (z, j, r, days_beyond back (day_number c (base c t z j)) (day_number c u) total k e lt)

  -- and the others do not
  pub days_surpass-not : (k : ℕ) → k ≤ total → ¬ DaysSurpass c t u back years months k
  days_surpass-not k le (y, i, s, beyond) =
      let same = reach-unique c back t years months y i z j s r in
      let base_same : day_number c (base c t y i) ≡ day_number c (base c t z j) = ap (λ (x : ℤ). day_number c (base c t x i)) same.0 ∙ ap (λ (p : ℕ). day_number c (base c t z p)) same.1 in
      days_within back (day_number c (base c t z j)) (day_number c u) total k e le (subst (λ (x : ℤ). IsBeyondDay back (x +ℤ toward back k) (day_number c u)) base_same beyond)

  -- the days that are left, after some of them
  pub greatest-days : (w d : ℕ) → w + d ≡ total → IsGreatest (λ k. DaysSurpass c t u back years months (w + k)) d
  greatest-days w d sum = record { within = days_surpass-not (w + d) (omega arith); most = λ k lt. days_surpass (w + k) (omega arith) }

  -- the whole weeks that are left
  pub greatest-weeks : (w d : ℕ) → 7 * w + d ≡ total → d < 7 → IsGreatest (λ k. DaysSurpass c t u back years months (7 * k)) w
  greatest-weeks w d sum lt = record { within = days_surpass-not (7 * w) (omega arith); most = λ k more. days_surpass (7 * k) (omega arith) }

-- years that do not surpass stay between the years
pub years-between : (c : CalendarList) (back : Bool) (t u : Date) (n : ℕ) → ¬ YearsSurpass c t u back n → IsFieldYear t.year → IsFieldYear u.year → IsFieldYear (t.year +ℤ toward back n)
years-between c false t u n short p q =
    by_lt_z {P = IsFieldYear (t.year +ℤ pos n)} u.year (t.year +ℤ pos n) (λ lt. absurd (short (inl (inl lt)))) (λ le. omega (arith, signed))
years-between c true t u n short p q =
    by_lt_z {P = IsFieldYear (t.year +ℤ neg_ℤ (pos n))} (t.year +ℤ neg_ℤ (pos n)) u.year (λ lt. absurd (short (inl (inl lt)))) (λ le. omega (arith, signed))

-- where years are not admitted, there are none
pub greatest_if-years : (Surpasses : ℕ → Type 0) (unit : DateDurationUnit) → (unit ≡ Years → ⊥) → IsGreatestIf (admits_years unit) Surpasses 0
greatest_if-years Surpasses Years other = absurd (other refl)
greatest_if-years Surpasses Months other = refl
greatest_if-years Surpasses Weeks other = refl
greatest_if-years Surpasses Days other = refl

-- the order of two months in the direction of counting
abbrev pub IsMonthOrder : CalendarList → Bool → ℤ → ℕ → ℤ → ℕ → Type 0
IsMonthOrder c false y i z j = month_number c y i ≤ℤ month_number c z j
IsMonthOrder c true y i z j = month_number c z j ≤ℤ month_number c y i

-- a month that is not beyond the second date's is before it in the sequence, in the direction of counting
pub within-order : (c : CalendarList) (back : Bool) (y : ℤ) (i d : ℕ) (z : ℤ) (j e : ℕ) → HasPlace c y i → HasPlace c z j → ¬ IsBeyond back (y, i, d) (z, j, e) → IsMonthOrder c back y i z j
within-order c false y i d z j e h k short =
    by_place_order {P = month_number c y i ≤ℤ month_number c z j} y i z j
    (λ before. omega (arith, signed, month_number-order c y i z j h k before))
    (λ after. absurd (short (beyond after)))
    (λ years places. omega (arith, signed, ap (λ (x : ℤ). month_number c x i) years, ap (month_number c z) places)) where
      beyond : (z <ℤ y) ⊎ ((z ≡ y) × (j < i)) → IsBeyond false (y, i, d) (z, j, e)
      beyond (inl p) = inl p
      beyond (inr p) = inr (p.0, inl p.1)
within-order c true y i d z j e h k short =
    by_place_order {P = month_number c z j ≤ℤ month_number c y i} y i z j
    (λ before. absurd (short (beyond before)))
    (λ after. omega (arith, signed, month_number-order c z j y i k h after))
    (λ years places. omega (arith, signed, ap (λ (x : ℤ). month_number c x i) years, ap (month_number c z) places)) where
      beyond : (y <ℤ z) ⊎ ((y ≡ z) × (i < j)) → IsBeyond true (y, i, d) (z, j, e)
      beyond (inl p) = inl p
      beyond (inr p) = inr (p.0, inl p.1)

-- the direction that the sign tells leads to the second date
pub leads-of : (c : CalendarList) (back : Bool) (t u : Date) → (back ≡ true → day_number c u <ℤ day_number c t) → (day_number c u <ℤ day_number c t → back ≡ true) → Leads c back t u
leads-of c false t u yes_back back_yes =
    by_lt_z {P = day_number c t ≤ℤ day_number c u} (day_number c u) (day_number c t) (λ lt. let wrong = back_yes lt in cc) (λ le. le)
leads-of c true t u yes_back back_yes = yes_back refl

-- no months do not surpass
pub months_surpass-none : (c : CalendarList) (back : Bool) (t u : Date) (years i : ℕ) (y : ℤ) → y ≡ t.year +ℤ toward back years → spot c y (month_at c t.year t.month) Constrain ≡ Some i → ¬ IsBeyond back (y, i, t.day) (u.year, u.month, u.day) → ¬ MonthsSurpass c t u back years 0
months_surpass-none c back t u years i y e s short (z, j, r, beyond) =
    let here = spot-place c y (month_at c t.year t.month) Constrain i s in
    let there : spot c (t.year +ℤ toward back years) (month_at c t.year t.month) Constrain ≡ Some i = subst (λ (x : ℤ). spot c x (month_at c t.year t.month) Constrain ≡ Some i) e s in
    let from_is : r.from ≡ i = some_same (sym r.spot_is ∙ there) in
    let number : month_number c z j ≡ month_number c y i = r.moved.moved ∙ toward-zero back (month_number c (t.year +ℤ toward back years) r.from) ∙ ap (λ (p : ℕ). month_number c (t.year +ℤ toward back years) p) from_is ∙ ap (λ (x : ℤ). month_number c x i) (sym e) in
    let same = month_number-injective c z j y i r.moved.place here number in
    short (subst (λ (x : ℤ). IsBeyond back (x, i, t.day) (u.year, u.month, u.day)) same.0 (subst (λ (p : ℕ). IsBeyond back (z, p, t.day) (u.year, u.month, u.day)) same.1 beyond))

-- how many days are left
pub days-left : (back : Bool) (n m : ℤ) → ¬ IsBeyondDay back n m → m ≡ n +ℤ toward back (unsigned_abs (m -ℤ n))
days-left false n m short =
    by_lt_z {P = m ≡ n +ℤ pos (unsigned_abs (m -ℤ n))} m n (λ lt. absurd (short lt)) (λ le. grind (arith, signed))
days-left true n m short =
    by_lt_z {P = m ≡ n +ℤ neg_ℤ (pos (unsigned_abs (m -ℤ n)))} n m (λ lt. absurd (short lt)) (λ le. grind (arith, signed))

-- the month reached lies in the first date's year or further in the direction of counting
reach-forward : (c : CalendarList) (t : Date) (years months : ℕ) (z : ℤ) (j : ℕ) → Reaches c t false years months z j → t.year ≤ℤ z
reach-forward c t years months z j r =
    let here = spot-place c (t.year +ℤ pos years) (month_at c t.year t.month) Constrain r.from r.spot_is in
    by_lt_z {P = t.year ≤ℤ z} z (t.year +ℤ pos years)
    (λ lt. absurd (omega (arith, signed, r.moved.moved, month_number-order c z j (t.year +ℤ pos years) r.from r.moved.place here (inl lt))))
    (λ le. omega (arith, signed))

reach-back : (c : CalendarList) (t : Date) (years months : ℕ) (z : ℤ) (j : ℕ) → Reaches c t true years months z j → z ≤ℤ t.year
reach-back c t years months z j r =
    let here = spot-place c (t.year +ℤ neg_ℤ (pos years)) (month_at c t.year t.month) Constrain r.from r.spot_is in
    by_lt_z {P = z ≤ℤ t.year} (t.year +ℤ neg_ℤ (pos years)) z
    (λ lt. absurd (omega (arith, signed, r.moved.moved, month_number-order c (t.year +ℤ neg_ℤ (pos years)) r.from z j here r.moved.place (inl lt))))
    (λ le. omega (arith, signed))

-- the day b lies at most 403 days short of n in the direction of counting
abbrev pub IsBaseNear : Bool → ℤ → ℤ → Type 0
IsBaseNear false n m = n ≤ℤ (m +ℤ pos 403)
IsBaseNear true n m = m ≤ℤ (n +ℤ pos 403)

-- so its days are at most a year short of the first date
pub base-near : (c : CalendarList) (law : IsLawful c) (back : Bool) (t : Date) (years months : ℕ) (z : ℤ) (j : ℕ) → Reaches c t back years months z j → IsDate c t → IsBaseNear back (day_number c t) (day_number c (base c t z j))
base-near c law false t years months z j r h =
    let le = reach-forward c t years months z j r in
    by_lt_z {P = day_number c t ≤ℤ (day_number c (base c t z j) +ℤ pos 403)} t.year z
    (λ lt. omega (arith, signed, start_of_year-later c t.year z lt, date-in_year c t h))
    (λ ge. let same : t.year ≡ z = omega (arith, signed) in omega (arith, signed, ap (start_of_year c) same, date-in_year c t h, year_length-most c t.year law))
base-near c law true t years months z j r h =
    let le = reach-back c t years months z j r in
    let b = base-date c law t z j r.moved.place h.day.0 in
    by_lt_z {P = day_number c (base c t z j) ≤ℤ (day_number c t +ℤ pos 403)} z t.year
    (λ lt. omega (arith, signed, start_of_year-later c z t.year lt, date-in_year c (base c t z j) b))
    (λ ge. let same : t.year ≡ z = omega (arith, signed) in omega (arith, signed, ap (start_of_year c) same, date-in_year c (base c t z j) b, year_length-most c z law))

-- so few days are left
pub left-small : (back : Bool) (n m b : ℤ) → IsBaseNear back n b → ¬ IsBeyondDay back b m → IsValidDay n → IsValidDay m → unsigned_abs (m -ℤ b) < 4294967296
left-small false n m b near short p q =
    by_lt_z {P = unsigned_abs (m -ℤ b) < 4294967296} m b (λ lt. absurd (short lt)) (λ le. omega (arith, signed))
left-small true n m b near short p q =
    by_lt_z {P = unsigned_abs (m -ℤ b) < 4294967296} b m (λ lt. absurd (short lt)) (λ le. omega (arith, signed))

-- an admitted unit has its greatest number, and another 0
pub greatest_if : (b : Bool) (Surpasses : ℕ → Type 0) (k : ℕ) → (b ≡ true → IsGreatest Surpasses k) → (b ≡ false → k ≡ 0) → IsGreatestIf b Surpasses k
greatest_if true Surpasses k greatest none = greatest refl
greatest_if false Surpasses k greatest none = none refl
