-- The days of a filter by the test of a date are those that a month and a day fall on.
use Rattle.std.proofs.Common.{◌≡◌, ℕ, ◌≤◌, ◌⊎◌, inl, inr, min, true, Option, Some, None, refl, sym, ap, subst, ◌∙◌, arith, ℤ}
use Rattle.cal_days.proofs.Signed.{by_lt}
use Rattle.cal_types.specs.Month.{MonthParts}
use Rattle.cal_types.specs.declared.options.Overflow.TheVariants as overflow
use Rattle.cal_types.specs.CalendarList.{CalendarList, Date, IsDate, IsLawful, first_of_two, month_length, place_of, spot}
use Rattle.cal_types.proofs.ListLemmas.{place_of-some, place_of-own, spot-own}
use Rattle.cal_types.specs.Anniversary.{IsNamed, is_anniversary, anniversaries_between}
use Rattle.cal_types.specs.declared.leaping.Leaping.{Leaping}
use Rattle.cal_types.specs.declared.leaping.Leaping.TheVariants.{Exact, Constrain}
use Rattle.cal_types.proofs.AnniversaryLemmas.{anniversary-true, true-anniversary, rank-injective}
use Rattle.cal_anniversary.specs.FallingOn.{AreAnniversaries, FallsOn, HasMonth, IsOnDay, IsYearly, LacksMonth}
use Rattle.cal_anniversary.proofs.DaysLemmas.{days-tested}

same_some : (i j : ℕ) → ◌≡◌ {A = Option ℕ} (Some i) (Some j) → i ≡ j
same_some i j e = cc

no_some : (i : ℕ) → ◌≡◌ {A = Option ℕ} None (Some i) → ⊥
no_some i e = cc

-- ---- the day

shorter-day : (c : CalendarList) (d : ℕ) (t : Date) → t.day ≡ min d (month_length c t.year t.month) → IsOnDay c d t
shorter-day c d t e =
    by_lt {P = IsOnDay c d t} (month_length c t.year t.month) d
    (λ lt. inr (lt, omega (arith, e)))
    (λ ge. inl (omega (arith, e)))

day-shorter : (c : CalendarList) (d : ℕ) (t : Date) → t.day ≤ month_length c t.year t.month → IsOnDay c d t → t.day ≡ min d (month_length c t.year t.month)
day-shorter c d t le (inl same) = omega (arith, same)
day-shorter c d t le (inr (lt, last)) = omega (arith, lt, last)

-- ---- the month

module _ (c : CalendarList) (law : IsLawful c) (y : ℤ) where
  found-month : (m : MonthParts) (i : ℕ) → place_of c y m ≡ Some i → HasMonth c y m i
  found-month m i e = let there = place_of-some c y m i e in (there.0, rank-injective _ _ there.1)

  month-found : (m : MonthParts) (i : ℕ) → HasMonth c y m i → place_of c y m ≡ Some i
  month-found m i (place, e) = subst (λ (v : MonthParts). place_of c y v ≡ Some i) e (place_of-own c y i (law.rises y) place)

  spot-by : (m : MonthParts) (o : Option ℕ) → place_of c y m ≡ o → spot c y m overflow.Constrain ≡ first_of_two o (place_of c y (c.stand_in m))
  unfolding spot
  spot-by m o e = ap (λ (p : Option ℕ). first_of_two p (place_of c y (c.stand_in m))) e

  abbrev Stands : MonthParts → ℕ → Type 0
  Stands m i = HasMonth c y m i ⊎ (LacksMonth c y m × HasMonth c y (c.stand_in m) i)

  spot-stands : (m : MonthParts) (i : ℕ) (o : Option ℕ) → place_of c y m ≡ o → spot c y m overflow.Constrain ≡ Some i → Stands m i
  spot-stands m i (Some j) e h =
      let same = same_some j i (sym (spot-by m (Some j) e) ∙ h) in
      inl (found-month m i (e ∙ ap (λ (k : ℕ). Some k) same))
  spot-stands m i None e h = inr (
    λ j there. no_some j (sym e ∙ month-found m j there),
    found-month (c.stand_in m) i (sym (spot-by m None e) ∙ h),
  )

  lacks-none : (m : MonthParts) (o : Option ℕ) → place_of c y m ≡ o → LacksMonth c y m → place_of c y m ≡ None
  lacks-none m None e lacks = e
  lacks-none m (Some j) e lacks = absurd (lacks j (found-month m j e))

  stands-spot : (m : MonthParts) (i : ℕ) → Stands m i → spot c y m overflow.Constrain ≡ Some i
  stands-spot m i (inl has) = spot-own c y m overflow.Constrain i (month-found m i has)
  stands-spot m i (inr (lacks, has)) =
      spot-by m None (lacks-none m (place_of c y m) refl lacks) ∙ month-found (c.stand_in m) i has

-- ---- the date of a year

module _ (c : CalendarList) (law : IsLawful c) where
  named-yearly : (leaping : Leaping) (m : MonthParts) (d : ℕ) (t : Date) → IsDate c t → IsNamed c leaping m d t → IsYearly c leaping m d t
  named-yearly Exact m d t is h = ((is.place, h.0), h.1)
  named-yearly Constrain m d t is h =
      (spot-stands c law t.year m t.month (place_of c t.year m) refl h.0, shorter-day c d t h.1)

  yearly-named : (leaping : Leaping) (m : MonthParts) (d : ℕ) (t : Date) → IsDate c t → IsYearly c leaping m d t → IsNamed c leaping m d t
  yearly-named Exact m d t is h = (h.0.1, h.1)
  yearly-named Constrain m d t is h =
      (stands-spot c law t.year m t.month h.0, day-shorter c d t is.day.1 h.1)

  -- a day passes the test exactly if the month and the day fall on it
  pub falls-true : (leaping : Leaping) (m : MonthParts) (d : ℕ) (n : ℤ) → FallsOn c leaping m d n → is_anniversary c leaping m d n ≡ true
  falls-true leaping m d n h =
      true-anniversary c law leaping m d n (record { date = h.date; on = h.on; named = yearly-named leaping m d h.date h.on.date h.yearly })

  pub true-falls : (leaping : Leaping) (m : MonthParts) (d : ℕ) (n : ℤ) → is_anniversary c leaping m d n ≡ true → FallsOn c leaping m d n
  true-falls leaping m d n e =
      let h = anniversary-true c law leaping m d n e in
      record { date = h.date; on = h.on; yearly = named-yearly leaping m d h.date h.on.date h.named }

  -- the list is that of these days
  pub anniversaries-meant : (leaping : Leaping) (m : MonthParts) (d : ℕ) (first last : ℤ) → AreAnniversaries c leaping m d first last (anniversaries_between c leaping m d first last)
  anniversaries-meant leaping m d first last =
      days-tested (is_anniversary c leaping m d) (FallsOn c leaping m d) (true-falls leaping m d) (falls-true leaping m d) first last
