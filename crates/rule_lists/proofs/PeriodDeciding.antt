-- Whether a day is one of a rule's periods, and where the days of a period lie.
use Rattle.std.proofs.Common.{◌≡◌, ◌∙◌, ℕ, zero, suc, ◌+◌, ◌*◌, ◌<◌, ◌≤◌, sym, ap, ap₂, subst, arith, ℤ, pos, ◌+ℤ◌, ◌-ℤ◌, ◌≤ℤ◌}
use Rattle.std.specs.Prelude.{unsigned_abs}
use Rattle.std.proofs.lemmas.Nat.{mul-le}
use mathlib.Core.Logic.{∥∥₁_elim}
use Rattle.cal_days.proofs.Signed.{signed}
use Rattle.cal_days.specs.Division.{floor_mod}
use Rattle.cal_types.specs.CalendarList.{CalendarList, Date, HasPlace, IsDate, IsLawful, IsMonthsAfter, date, day_number, month_at, month_number, start_of_year, year_length}
use Rattle.cal_types.proofs.ListLemmas.{month-finds, month_number-injective, start_of_year-next, year_length-some}
use Rattle.cal_rule.specs.Sets.{has_month}
use Rattle.cal_rule.specs.declared.frequency.Frequency.{Frequency}
use Rattle.cal_rule.specs.declared.frequency.Frequency.TheVariants.{Yearly, Monthly, Weekly, Daily}
use Rattle.cal_rule.specs.declared.place_set.Place.TheVariants.{FromFront}
use Rattle.cal_rule.specs.declared.rule.RecurrenceRule.{RecurrenceRule}
use Rattle.cal_rrule.proofs.ApartLemmas.{week-unique}
use Rattle.cal_rrule.specs.Occurrences.{IsKept}
use Rattle.cal_rrule.specs.Periods.{IsNamedInMonth, IsNamedInWeek, IsNamedInWeeks, IsOfPeriod, IsOfPeriods, NoMonthDays, NoWeekdays, NoWeeks}
use Rattle.cal_rrule.specs.Stretches.{end_of, month_stretch}
use Rattle.cal_rrule.specs.Weeks.{weeks_behind}
use Rattle.cal_rrule.specs.laws.MonthOrder.{month-behind}
use Rattle.recurrence_sets.specs.Occurrences.{IsOfSome}
use Rattle.rule_lists.proofs.DayDeciding.{given, in_stretch, kept_day, lacks_month_days, lacks_months, lacks_weekdays, lacks_weeks, names_day, of_months, of_weekdays}
use Rattle.rule_lists.proofs.DayCounts.{place-decided}
use Rattle.rule_lists.proofs.Deciding.{both, denied, either, implied, is_less_z, is_most_z, is_same, is_same_z, like, of_one, some_number, three, truth}
use Rattle.rule_lists.proofs.SetDeciding.{no_places, some_place}
use Rattle.rule_lists.proofs.YearDeciding.{in_week_of, named-bounds, named-near, numbered-belongs, of_years, start_week, start_week-of, week_year, week_year-one}

-- the months from one on begin at least a day apart
month-rises : (c : CalendarList) → IsLawful c → (y : ℤ) (i : ℕ) → HasPlace c y i → (k : ℕ) (z : ℤ) (j : ℕ) → IsMonthsAfter c y i (pos k) z j →
    (day_number c (date y i 1) +ℤ pos k) ≤ℤ day_number c (date z j 1)
month-rises c law y i place zero z j after =
    let same = month_number-injective c z j y i after.place place (omega (arith, signed, after.moved)) in
    let equal : day_number c (date z j 1) ≡ day_number c (date y i 1) = ap₂ (λ (x : ℤ) (k : ℕ). day_number c (date x k 1)) same.0 same.1 in
    omega (arith, signed, equal)
month-rises c law y i place (suc k) z j after =
    let (x, m, there, number) = month-finds c law (month_number c y i +ℤ pos k) in
    let before = month-rises c law y i place k x m (record { place = there; moved = number }) in
    let behind = month-behind c law x m z j there after.place (omega (arith, signed, after.moved, number)) in
    omega (arith, signed, before, behind, (law.lengths x m there).0)

-- and the years
year-rises : (c : CalendarList) → IsLawful c → (y : ℤ) (k : ℕ) → (start_of_year c y +ℤ pos k) ≤ℤ start_of_year c (y +ℤ pos k)
year-rises c law y zero =
    let same : start_of_year c (y +ℤ pos 0) ≡ start_of_year c y = ap (start_of_year c) (omega (arith, signed)) in
    omega (arith, signed, same)
year-rises c law y (suc k) =
    let same : start_of_year c (y +ℤ pos (suc k)) ≡ start_of_year c (y +ℤ pos k +ℤ pos 1) = ap (start_of_year c) (omega (arith, signed)) in
    omega (arith, signed, same, year-rises c law y k, start_of_year-next c (y +ℤ pos k), year_length-some c law (y +ℤ pos k))

-- days of a kind lie between two, so many days or more behind a first one
record Between (base : ℤ) (count : ℕ) (Is : ℤ → Type 0) : Type 0 where
  pub low : ℤ
  pub high : ℤ
  pub behind : (base +ℤ pos count) ≤ℤ low
  pub within : (n : ℤ) → Is n → (low ≤ℤ n) × (n ≤ℤ high)

module _ (c : CalendarList) (law : IsLawful c) (rule : RecurrenceRule) (t : Date) (is_date : IsDate c t) where
  named_in_month : (found : ℤ × ℕ) (n : ℤ) → Dec (IsNamedInMonth c rule t found n)
  named_in_month found n =
      like (λ (p, q). record { month = p.0; month_day = p.1; weekday = p.2; within = q.0; start_day = q.1 })
      (λ k. ((k.month, k.month_day, k.weekday), (k.within, k.start_day)))
      (both
      (three (implied (denied (lacks_months rule)) (truth (has_month rule.months (month_at c found.0 found.1))))
      (implied (denied (lacks_month_days rule)) (some_place rule.month_days (λ d. names_day rule.skip (month_stretch c found) d n)))
      (implied (denied (lacks_weekdays rule)) (of_weekdays c law rule n)))
      (both (implied (lacks_month_days rule) (implied (denied (lacks_weekdays rule)) (in_stretch (month_stretch c found) n)))
      (implied (lacks_month_days rule) (implied (lacks_weekdays rule) (names_day rule.skip (month_stretch c found) (FromFront t.day) n)))))

  named_in_week : (w n : ℤ) → Dec (IsNamedInWeek c rule t w n)
  named_in_week w n =
      like (λ (p, q). record { within = p; month = q.0; weekday = q.1 }) (λ k. (k.within, (k.month, k.weekday)))
      (both (both (is_most_z w n) (is_less_z n (w +ℤ pos 7)))
      (both (implied (denied (lacks_months rule)) (of_months c law rule n))
      (given (lacks_weekdays rule) (of_weekdays c law rule n) (is_same (floor_mod n 7) (floor_mod (day_number c t) 7)))))

  -- the month so many months after the start's
  month_after : (count : ℕ) → (found : ℤ × ℕ) × IsMonthsAfter c t.year t.month (pos count) found.0 found.1
  month_after count =
      let (y, i, place, number) = month-finds c law (month_number c t.year t.month +ℤ pos count) in
      ((y, i), record { place = place; moved = number })

  month_after-one : (count : ℕ) (found : ℤ × ℕ) → IsMonthsAfter c t.year t.month (pos count) found.0 found.1 → found ≡ (month_after count).0
  month_after-one count found after =
      let here = month_after count in
      let same = month_number-injective c found.0 found.1 here.0.0 here.0.1 after.place here.1.place (after.moved ∙ sym here.1.moved) in
      ap₂ (λ (y : ℤ) (i : ℕ). (y, i)) same.0 same.1

  of_periods : (f : Frequency) (count : ℕ) (n : ℤ) → Dec (IsOfPeriods f c rule t count n)
  of_periods Yearly count n = of_years c law rule t count n
  of_periods Monthly count n = let here = month_after count in of_one here.0 here.1 (month_after-one count) (named_in_month here.0 n)
  of_periods Weekly count n = in_week_of c law rule t (λ w. named_in_week (weeks_behind w count) n) (day_number c t)
  of_periods Daily count n = both (is_same_z n (day_number c t +ℤ pos count)) (kept_day c law rule n)

  pub of_period : (k : ℕ) (n : ℤ) → Dec (IsOfPeriod c rule t k n)
  of_period k n = of_periods rule.frequency (k * rule.interval) n

  -- ---- where the days of a period lie

  -- a day that a month names is within reach of it
  month-near : (found : ℤ × ℕ) (n : ℤ) → IsNamedInMonth c rule t found n → (((month_stretch c found).first -ℤ pos 1) ≤ℤ n) × (n ≤ℤ end_of (month_stretch c found))
  month-near found n named = by (lacks_month_days rule) (lacks_weekdays rule)
    where
      by : Dec (NoMonthDays rule) → Dec (NoWeekdays rule) → (((month_stretch c found).first -ℤ pos 1) ≤ℤ n) × (n ≤ℤ end_of (month_stretch c found))
      by (no there) d = let names = named.month_day there in named-bounds rule.skip (month_stretch c found) names.0 n names.2
      by (yes lacks) (no some) = let h = named.within lacks some in (omega (arith, signed, h.0), omega (arith, signed, h.1))
      by (yes lacks) (yes none) = named-bounds rule.skip (month_stretch c found) (FromFront t.day) n (named.start_day lacks none)

  weeks-between : ¬ (NoWeeks rule) → (count : ℕ) → Between (start_of_year c (week_year c law rule t) -ℤ pos 3) count (IsOfPeriods Yearly c rule t count)
  weeks-between there count = record {
    low = start_of_year c y -ℤ pos 3;
    high = start_of_year c y +ℤ pos (year_length c y + 3);
    behind = omega (arith, signed, year-rises c law (week_year c law rule t) count);
    within = λ n h. named n (years n h);
  }
    where
      y : ℤ
      y = week_year c law rule t +ℤ pos count

      years : (n : ℤ) → IsOfPeriods Yearly c rule t count n → IsNamedInWeeks c rule t y n
      years n h =
          let (z, w, week, belongs, names) = h.0 there in
          subst (λ (x : ℤ). IsNamedInWeeks c rule t (x +ℤ pos count) n) (week_year-one c law rule t z w week belongs) names

      named : (n : ℤ) → IsNamedInWeeks c rule t y n → ((start_of_year c y -ℤ pos 3) ≤ℤ n) × (n ≤ℤ (start_of_year c y +ℤ pos (year_length c y + 3)))
      named n h =
          let (w, week, k, has, number) = h.week in
          let belongs = numbered-belongs c y w k number in
          (omega (arith, signed, belongs.0, week.1), omega (arith, signed, belongs.1, week.2))

  years-between : NoWeeks rule → (count : ℕ) → Between (start_of_year c t.year -ℤ pos 1) count (IsOfPeriods Yearly c rule t count)
  years-between lacks count = record {
    low = start_of_year c (t.year +ℤ pos count) -ℤ pos 1;
    high = start_of_year c (t.year +ℤ pos count +ℤ pos 2);
    behind = omega (arith, signed, year-rises c law t.year count);
    within = λ n h. named-near c law rule t (t.year +ℤ pos count) n (h.1 lacks);
  }

  months-between : (count : ℕ) → Between (day_number c (date t.year t.month 1) -ℤ pos 1) count (IsOfPeriods Monthly c rule t count)
  months-between count = record {
    low = (month_stretch c here.0).first -ℤ pos 1;
    high = end_of (month_stretch c here.0);
    behind = omega (arith, signed, month-rises c law t.year t.month is_date.place count here.0.0 here.0.1 here.1);
    within = λ n (found, after, named).
        month-near here.0 n (subst (λ (m : ℤ × ℕ). IsNamedInMonth c rule t m n) (month_after-one count found after) named);
  }
    where
      here : (found : ℤ × ℕ) × IsMonthsAfter c t.year t.month (pos count) found.0 found.1
      here = month_after count

  weeks_from : (count : ℕ) → Between (start_week c law rule t) count (IsOfPeriods Weekly c rule t count)
  weeks_from count = record {
    low = weeks_behind (start_week c law rule t) count;
    high = weeks_behind (start_week c law rule t) count +ℤ pos 6;
    behind = omega (arith, signed);
    within = λ n (w, week, named).
        let same = week-unique rule.week_start (day_number c t) w (start_week c law rule t) week (start_week-of c law rule t) in
        omega (arith, signed, same, named.within.0, named.within.1);
  }

  -- the days of each period lie between two, so many days or more behind a day as it lies periods behind the start's
  reach : (f : Frequency) → (base : ℤ) × ((count : ℕ) → Between base count (IsOfPeriods f c rule t count))
  reach Yearly = by (lacks_weeks rule)
    where
      by : Dec (NoWeeks rule) → (base : ℤ) × ((count : ℕ) → Between base count (IsOfPeriods Yearly c rule t count))
      by (yes lacks) = (start_of_year c t.year -ℤ pos 1, years-between lacks)
      by (no there) = (start_of_year c (week_year c law rule t) -ℤ pos 3, weeks-between there)
  reach Monthly = (day_number c (date t.year t.month 1) -ℤ pos 1, months-between)
  reach Weekly = (start_week c law rule t, weeks_from)
  reach Daily = (
    day_number c t,
    λ count. record {
      low = day_number c t +ℤ pos count;
      high = day_number c t +ℤ pos count;
      behind = omega (arith, signed);
      within = λ n (e, kept). (omega (arith, signed, e), omega (arith, signed, e));
    },
  )

  kept : (k : ℕ) (n : ℤ) → Dec (IsKept c rule t k n)
  kept k n =
      let is = (reach rule.frequency).1 (k * rule.interval) in
      both (of_period k n)
      (either (no_places rule.positions)
      (some_place rule.positions (λ p. place-decided (IsOfPeriod c rule t k) (of_period k) is.low is.high is.within n p)))

  -- a day is of one of few periods
  few : (k : ℕ) (n : ℤ) → IsKept c rule t k n → k < unsigned_abs (n -ℤ (reach rule.frequency).0) + 1
  few k n h =
      let is = (reach rule.frequency).1 (k * rule.interval) in
      let at = is.within n h.0 in
      let least : k * 1 ≤ k * rule.interval = mul-le k 1 k rule.interval (omega arith) (omega (arith, rule.every)) in
      let one : k * 1 ≡ k = omega arith in
      omega (arith, signed, is.behind, at.0, least, one)

  -- whether a day is kept of some period
  pub of_some : (n : ℤ) → Dec (IsOfSome (IsKept c rule t) n)
  of_some n = by (some_number (λ k. kept k n) (unsigned_abs (n -ℤ (reach rule.frequency).0) + 1) (λ k h. few k n h))
    where
      by : Dec ((k : ℕ) × IsKept c rule t k n) → Dec (IsOfSome (IsKept c rule t) n)
      by (yes h) = yes ∣ h ∣₁
      by (no never) = no (λ h. ∥∥₁_elim h (λ a b. absurd a) never)
