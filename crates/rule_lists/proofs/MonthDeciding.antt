-- Whether months and days of months are those that a rule names in a year.
use Rattle.std.proofs.Common.{◌≡◌, ℕ, ◌<◌, ◌⊎◌, inl, inr, Option, Some, None, refl, sym, ap, subst, arith, ℤ, pos, ◌+ℤ◌, ◌≤ℤ◌}
use Rattle.std.specs.Prelude.{IsTrue, MatchOption}
use Rattle.std.proofs.lemmas.Int.{by_lt_z}
use Rattle.cal_days.proofs.Signed.{signed}
use Rattle.cal_types.specs.CalendarList.{CalendarList, Date, HasPlace, IsLawful, IsMonthsAfter, month_at, month_count, month_number, place_of}
use Rattle.cal_types.specs.Month.{MonthParts}
use Rattle.cal_types.specs.PlainMonths.{numbered_month}
use Rattle.cal_types.proofs.ListLemmas.{first-place, month_number-next, month_number-order, month_number-place, place_of-some}
use Rattle.cal_rule.specs.Sets as sets
use Rattle.cal_rule.specs.Sets.{has_month}
use Rattle.cal_rule.specs.declared.place_set.Place.{Place}
use Rattle.cal_rule.specs.declared.place_set.Place.TheVariants.{FromFront}
use Rattle.cal_rule.specs.declared.rule.RecurrenceRule.{RecurrenceRule}
use Rattle.cal_rule.specs.declared.skip.Skip.{Skip}
use Rattle.cal_rule.specs.declared.skip.Skip.TheVariants.{Omit, Backward, Forward}
use Rattle.cal_rrule.specs.Periods.{IsYearMonth, IsYearMonthDay, NoDays, NoMonths, SaysMonth, SaysMonthDay}
use Rattle.cal_rrule.specs.Stretches.{NamesDay, NamesMonth, ReplacesMonth, Stretch, month_stretch}
use Rattle.rule_lists.proofs.DayDeciding.{given, in_stretch, lacks_days, lacks_month_days, lacks_months, lacks_year_days, names_day}
use Rattle.rule_lists.proofs.Deciding.{both, denied, either, implied, is_most, is_same, is_same_z, like, of_one, some_between, some_number, truth}
use Rattle.rule_lists.proofs.SetDeciding.{some_month, some_place}

-- a place may be a number
is_some : (o : Option ℕ) (i : ℕ) → Dec (o ≡ Some i)
is_some None i = no (λ e. cc)
is_some (Some j) i = like (λ e. ap Some e) (λ e. cc) (is_same j i)

-- a pair of numbers in a range
pub some_pair : {P : ℤ × ℕ → Type 0} → ((p : ℤ × ℕ) → Dec (P p)) → (low high : ℤ) (most : ℕ) →
    ((p : ℤ × ℕ) → P p → ((low ≤ℤ p.0) × (p.0 ≤ℤ high)) × (p.1 < most)) → Dec ((p : ℤ × ℕ) × P p)
some_pair {P} decide low high most within =
    like (λ (y, (i, p)). ((y, i), p)) (λ (q, p). (q.0, (q.1, p)))
    (some_between {P = λ y. (i : ℕ) × P (y, i)}
    (λ y. some_number (λ i. decide (y, i)) most (λ i p. (within (y, i) p).1)) low high (λ y (i, p). (within (y, i) p).0))

has_place : (c : CalendarList) (y : ℤ) (i : ℕ) → Dec (HasPlace c y i)
has_place c y i = both (is_most 1 i) (is_most i (month_count c y))

months_after : (c : CalendarList) (y : ℤ) (i : ℕ) (k z : ℤ) (j : ℕ) → Dec (IsMonthsAfter c y i k z j)
months_after c y i k z j =
    like (λ p. record { place = p.0; moved = p.1 }) (λ m. (m.place, m.moved))
    (both (has_place c z j) (is_same_z (month_number c z j) (month_number c y i +ℤ k)))

replaces_month : (skip : Skip) (c : CalendarList) (y : ℤ) (m : MonthParts) (found : ℤ × ℕ) → Dec (ReplacesMonth skip c y m found)
replaces_month Omit c y m found = no (λ h. h)
replaces_month Backward c y m found = both (is_same_z found.0 y) (is_some (place_of c y (numbered_month m.number)) found.1)
replaces_month Forward c y m found = by (place_of c y (numbered_month m.number))
  where
    by : (o : Option ℕ) → Dec ((i : ℕ) × (o ≡ Some i) × IsMonthsAfter c y i (pos 1) found.0 found.1)
    by None = no (λ (i, e, h). cc)
    by (Some j) = of_one j refl (λ i e. cc) (months_after c y j (pos 1) found.0 found.1)

names_month : (skip : Skip) (c : CalendarList) (y : ℤ) (m : MonthParts) (found : ℤ × ℕ) → Dec (NamesMonth skip c y m found)
names_month skip c y m found = by (place_of c y m)
  where
    by : (o : Option ℕ) → Dec (MatchOption o (IsTrue m.is_leap × ReplacesMonth skip c y m found) (λ i. (found.0 ≡ y) × (found.1 ≡ i)))
    by None = both (truth m.is_leap) (replaces_month skip c y m found)
    by (Some i) = both (is_same_z found.0 y) (is_same found.1 i)

-- the month after one of a year is of the year or of the next
after-near : (c : CalendarList) → IsLawful c → (y : ℤ) (i : ℕ) → HasPlace c y i → (z : ℤ) (j : ℕ) → IsMonthsAfter c y i (pos 1) z j →
    (y ≤ℤ z) × (z ≤ℤ (y +ℤ pos 1))
after-near c law y i place z j after = (low, high)
  where
    next : HasPlace c (y +ℤ pos 1) 1
    next = first-place c (y +ℤ pos 1) law

    low : y ≤ℤ z
    low = by_lt_z {P = y ≤ℤ z} z y (λ lt. absurd (omega (arith, signed, after.moved, month_number-order c z j y i after.place place (inl lt)))) (λ le. le)

    high : z ≤ℤ (y +ℤ pos 1)
    high =
        by_lt_z {P = z ≤ℤ (y +ℤ pos 1)} (y +ℤ pos 1) z
        (λ lt. absurd (omega (arith, signed, after.moved, place, month_number-next c y, month_number-place c y i place.0, month_number-order c (y +ℤ pos 1) 1 z j next after.place (inl lt))))
        (λ le. le)

-- a number is small if it is the place of a month
few : (c : CalendarList) → IsLawful c → (y : ℤ) (i : ℕ) → HasPlace c y i → i < 14
few c law y i place = omega (arith, place.1, (law.count y).1)

names-near : (skip : Skip) (c : CalendarList) → IsLawful c → (y : ℤ) (m : MonthParts) (found : ℤ × ℕ) → NamesMonth skip c y m found →
    HasPlace c found.0 found.1 × ((y ≤ℤ found.0) × (found.0 ≤ℤ (y +ℤ pos 1)))
names-near skip c law y m found h = by (place_of c y m) refl h
  where
    here : (i : ℕ) → found.0 ≡ y → found.1 ≡ i → HasPlace c y i → HasPlace c found.0 found.1 × ((y ≤ℤ found.0) × (found.0 ≤ℤ (y +ℤ pos 1)))
    here i e f place =
        (subst (λ (z : ℤ). HasPlace c z found.1) (sym e) (subst (HasPlace c y) (sym f) place), (omega (arith, signed, e), omega (arith, signed, e)))

    replaced : (s : Skip) → ReplacesMonth s c y m found → HasPlace c found.0 found.1 × ((y ≤ℤ found.0) × (found.0 ≤ℤ (y +ℤ pos 1)))
    replaced Omit r = absurd r
    replaced Backward r = here found.1 r.0 refl (place_of-some c y (numbered_month m.number) found.1 r.1).0
    replaced Forward r = (r.2.place, after-near c law y r.0 (place_of-some c y (numbered_month m.number) r.0 r.1).0 found.0 found.1 r.2)

    by : (o : Option ℕ) → place_of c y m ≡ o → MatchOption o (IsTrue m.is_leap × ReplacesMonth skip c y m found) (λ i. (found.0 ≡ y) × (found.1 ≡ i)) →
        HasPlace c found.0 found.1 × ((y ≤ℤ found.0) × (found.0 ≤ℤ (y +ℤ pos 1)))
    by None e r = replaced skip r.1
    by (Some i) e r = here i r.0 r.1 (place_of-some c y m i e).0

module _ (c : CalendarList) (law : IsLawful c) (rule : RecurrenceRule) (t : Date) (y : ℤ) where
  -- a month that the rule says names this one
  says_month : (found : ℤ × ℕ) → Dec ((m : MonthParts) × SaysMonth c rule t m × NamesMonth rule.skip c y m found)
  says_month found =
      like to from
      (either (some_month rule.months (λ m. names_month rule.skip c y m found))
      (both (both (lacks_days rule) (lacks_months rule)) (names_month rule.skip c y own found)))
    where
      own : MonthParts
      own = month_at c t.year t.month

      to : ((m : MonthParts) × IsTrue (has_month rule.months m) × NamesMonth rule.skip c y m found)
          ⊎ ((NoDays rule × NoMonths rule) × NamesMonth rule.skip c y own found) →
          (m : MonthParts) × SaysMonth c rule t m × NamesMonth rule.skip c y m found
      to (inl (m, has, names)) = (m, inl has, names)
      to (inr ((days, months), names)) = (own, inr (days, months, refl), names)

      from : (m : MonthParts) × SaysMonth c rule t m × NamesMonth rule.skip c y m found →
          ((m : MonthParts) × IsTrue (has_month rule.months m) × NamesMonth rule.skip c y m found)
          ⊎ ((NoDays rule × NoMonths rule) × NamesMonth rule.skip c y own found)
      from (m, inl has, names) = inl (m, has, names)
      from (m, inr (days, months, e), names) = inr ((days, months), subst (λ (x : MonthParts). NamesMonth rule.skip c y x found) e names)

  year_month : (found : ℤ × ℕ) → Dec (IsYearMonth c rule t y found)
  year_month found =
      given (both (lacks_months rule) (denied (lacks_days rule))) (says_month found)
      (both (is_same_z found.0 y) (has_place c y found.1))

  -- it is one of the year, or of the next
  pub year_month-near : (found : ℤ × ℕ) → IsYearMonth c rule t y found → HasPlace c found.0 found.1 × ((y ≤ℤ found.0) × (found.0 ≤ℤ (y +ℤ pos 1)))
  year_month-near found h = by (both (lacks_months rule) (denied (lacks_days rule)))
    where
      by : Dec (NoMonths rule × ¬ (NoDays rule)) → HasPlace c found.0 found.1 × ((y ≤ℤ found.0) × (found.0 ≤ℤ (y +ℤ pos 1)))
      by (yes missing) =
          let is = h.1 missing in
          (subst (λ (z : ℤ). HasPlace c z found.1) (sym is.0) is.1, (omega (arith, signed, is.0), omega (arith, signed, is.0)))
      by (no there) = let says = h.0 there in names-near rule.skip c law y says.0 found says.2

  -- what is said of a month that the rule names
  in_year_month : {R : ℤ × ℕ → Type 0} → ((found : ℤ × ℕ) → Dec (R found)) → Dec ((found : ℤ × ℕ) × IsYearMonth c rule t y found × R found)
  in_year_month {R} decide =
      like (λ (found, (is, r)). (found, is, r)) (λ (found, is, r). (found, (is, r)))
      (some_pair (λ found. both (year_month found) (decide found)) y (y +ℤ pos 1) 14
      (λ found (is, r). let near = year_month-near found is in (near.1, few c law found.0 found.1 near.0)))

  -- a day of a month that the rule says names this one
  says_month_day : (s : Stretch) (n : ℤ) → Dec ((d : Place) × SaysMonthDay rule t d × NamesDay rule.skip s d n)
  says_month_day s n =
      like to from
      (either (some_place rule.month_days (λ d. names_day rule.skip s d n))
      (both (lacks_days rule) (names_day rule.skip s (FromFront t.day) n)))
    where
      to : ((d : Place) × IsTrue (sets.has_place rule.month_days d) × NamesDay rule.skip s d n) ⊎ (NoDays rule × NamesDay rule.skip s (FromFront t.day) n) →
          (d : Place) × SaysMonthDay rule t d × NamesDay rule.skip s d n
      to (inl (d, has, names)) = (d, inl has, names)
      to (inr (days, names)) = (FromFront t.day, inr (days, refl), names)

      from : (d : Place) × SaysMonthDay rule t d × NamesDay rule.skip s d n →
          ((d : Place) × IsTrue (sets.has_place rule.month_days d) × NamesDay rule.skip s d n) ⊎ (NoDays rule × NamesDay rule.skip s (FromFront t.day) n)
      from (d, inl has, names) = inl (d, has, names)
      from (d, inr (days, e), names) = inr (days, subst (λ (x : Place). NamesDay rule.skip s x n) e names)

  pub year_month_day : (n : ℤ) → Dec (IsYearMonthDay c rule t y n)
  year_month_day n =
      given (both (lacks_month_days rule) (denied (lacks_days rule)))
      (like (λ (found, is, (d, says, names)). (found, is, d, says, names)) (λ (found, is, d, says, names). (found, is, (d, says, names)))
      (in_year_month (λ found. says_month_day (month_stretch c found) n)))
      (implied (denied (both (lacks_months rule) (denied (lacks_year_days rule)))) (in_year_month (λ found. in_stretch (month_stretch c found) n)))
