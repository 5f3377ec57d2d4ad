-- Years of days near the valid days, where those of valid days are few.
use Rattle.std.proofs.Common.{◌≡◌, ℕ, zero, suc, ◌+◌, ◌*◌, ◌≤◌, ℤ, pos, neg_ℤ, ◌+ℤ◌, ◌-ℤ◌, ◌≤ℤ◌, sym, ap, subst, arith}
use Rattle.std.proofs.lemmas.Int.{by_lt_z}
use Rattle.cal_days.specs.Day.{IsBetween, IsFieldYear, IsValidDay}
use Rattle.cal_days.specs.Sums.{years_up}
use Rattle.cal_days.proofs.Signed.{signed}
use Rattle.cal_types.specs.CalendarList.{CalendarList, Date, HasPlace, IsLawful, IsOn, IsValidDate, days_before, month_count, start_of_year, year_length}
use Rattle.cal_types.proofs.ListLemmas.{date-in_year, days_before-end, days_before-next, on-finds, start_of_year-next}

days-least : (c : CalendarList) → IsLawful c → (y : ℤ) (k : ℕ) → k ≤ month_count c y → k ≤ days_before c y (k + 1)
days-least c law y zero few = omega arith
days-least c law y (suc k) few =
    let here : HasPlace c y (k + 1) = (omega arith, omega arith) in
    let same : suc k + 1 ≡ k + 1 + 1 = omega arith in
    rw same (omega (arith, days-least c law y k (omega arith), days_before-next c y (k + 1) here, law.lengths y (k + 1) here))

-- a year has at least a day a month
year-least : (c : CalendarList) → IsLawful c → (y : ℤ) → 12 ≤ year_length c y
year-least c law y =
    omega (arith, law.count y, days-least c law y (month_count c y) (omega arith), days_before-end c y (month_count c y + 1) (omega arith))

-- so many years later begins so much later
starts-later : (c : CalendarList) → IsLawful c → (y : ℤ) (k : ℕ) → (start_of_year c y +ℤ pos (12 * k)) ≤ℤ start_of_year c (y +ℤ pos k)
starts-later c law y zero =
    let same : y +ℤ pos 0 ≡ y = omega (arith, signed) in
    let starts = ap (λ (x : ℤ). start_of_year c x) same in
    omega (arith, signed, starts)
starts-later c law y (suc k) =
    let same : y +ℤ pos (suc k) ≡ (y +ℤ pos k) +ℤ pos 1 = omega (arith, signed) in
    let starts = ap (λ (x : ℤ). start_of_year c x) same in
    omega (arith, signed, starts, start_of_year-next c (y +ℤ pos k), starts-later c law y k, year-least c law (y +ℤ pos k))

module _ (c : CalendarList) (law : IsLawful c)
    (few : (t : Date) → IsValidDate c t → IsBetween (neg_ℤ (pos 1039000)) (pos 1039000) t.year) where
  valid-year : (n : ℤ) → IsValidDay n → (u : Date) × IsOn c n u × IsBetween (neg_ℤ (pos 1039000)) (pos 1039000) u.year
  valid-year n valid =
      let found = on-finds c law n in
      (found.0, found.1, few found.0 (record { date = found.1.date; valid = subst IsValidDay (sym found.1.day) valid }))

  later-year : (n : ℤ) (t : Date) → n ≤ℤ pos 365253000 → IsOn c n t → t.year ≤ℤ pos 1040000
  later-year n t most on =
      by_lt_z {P = t.year ≤ℤ pos 1040000} (pos 1040000) t.year
      (λ far.
      let u = valid-year (pos 365242134) (omega (arith, signed), omega (arith, signed)) in
      let k = years_up (t.year -ℤ u.0.year -ℤ pos 1) in
      let same : (u.0.year +ℤ pos 1) +ℤ pos k ≡ t.year = omega (arith, signed, far, u.2.1) in
      let starts = ap (λ (x : ℤ). start_of_year c x) same in
      let many : 1000 ≤ k = omega (arith, signed, far, u.2.1, same) in
      let later = starts-later c law (u.0.year +ℤ pos 1) k in
      let own = date-in_year c u.0 u.1.date in
      absurd (omega (arith, signed, starts, later, many, start_of_year-next c u.0.year, own, u.1.day, u.1.date.day.0, on.day, most)))
      (λ near. near)

  earlier-year : (n : ℤ) (t : Date) → neg_ℤ (pos 365253000) ≤ℤ n → IsOn c n t → neg_ℤ (pos 1040000) ≤ℤ t.year
  earlier-year n t least on =
      by_lt_z {P = neg_ℤ (pos 1040000) ≤ℤ t.year} t.year (neg_ℤ (pos 1040000))
      (λ far.
      let u = valid-year (neg_ℤ (pos 365242499)) (omega (arith, signed), omega (arith, signed)) in
      let k = years_up (u.0.year -ℤ t.year -ℤ pos 1) in
      let same : (t.year +ℤ pos 1) +ℤ pos k ≡ u.0.year = omega (arith, signed, far, u.2.0) in
      let starts = ap (λ (x : ℤ). start_of_year c x) same in
      let many : 1000 ≤ k = omega (arith, signed, far, u.2.0, same) in
      let later = starts-later c law (t.year +ℤ pos 1) k in
      let own = date-in_year c t on.date in
      absurd (omega (arith, signed, starts, later, many, start_of_year-next c t.year, own, on.day, on.date.day.0, u.1.day, least)))
      (λ near. near)

  -- fields can name the years of near days if those of valid days are from -1039000 to 1039000
  pub near-years : (n : ℤ) (t : Date) → IsBetween (neg_ℤ (pos 365253000)) (pos 365253000) n → IsOn c n t → IsFieldYear t.year
  near-years n t near on = (earlier-year n t near.0 on, later-year n t near.1 on)
