-- The days that YEARLY keeps by weeks of years.
use Rattle.std.proofs.Common.{◌≡◌, ◌∙◌, ℕ, ◌+◌, ◌*◌, ◌<◌, ◌≤◌, ◌↔◌, ◌&&◌, ◌||◌, IsTrue, Bool, false, int_le, int_lt, Option, ℤ, neg_ℤ, negsuc, pos, ◌+ℤ◌, ◌-ℤ◌, ◌≤ℤ◌, ◌<ℤ◌, refl, sym, ap, subst, arith}
use mathlib.Core.Bool.{true≢false}
use mathlib.Core.Logic.{inl, inr, ⊎_elim}
use Rattle.std.proofs.lemmas.Bool.Decides.{Decides-and, Decides-at, Decides-or}
use Rattle.std.proofs.lemmas.Int.{by_lt_z}
use Rattle.std.proofs.lemmas.Nat.{mul-le}
use Rattle.cal_days.specs.Day.{IsBetween, IsFieldYear, IsValidDay}
use Rattle.cal_days.specs.Division.{floor_mod}
use Rattle.cal_days.proofs.Signed.{signed}
use Rattle.cal_types.specs.CalendarList.{CalendarList, Date, HasPlace, date, IsLawful, day_number, month_count, month_length, start_of_year, year_length}
use Rattle.cal_types.proofs.ListLemmas.{date-in_year, day_number-first, first-date, days_before-end, days_before-first, days_before-later, days_before-next, on-finds, start_of_year-later, start_of_year-next}
use Rattle.cal_rule.specs.declared.frequency.Frequency.{Frequency}
use Rattle.cal_rule.specs.declared.frequency.Frequency.TheVariants.{Yearly}
use Rattle.cal_rule.specs.declared.place_set.Place.{Place}
use Rattle.cal_rule.specs.declared.place_set.Place.TheVariants.{FromFront, FromBack}
use Rattle.cal_rule.specs.declared.rule.RecurrenceRule.{RecurrenceRule}
use Rattle.cal_rule.specs.declared.skip.Skip.{Skip}
use Rattle.cal_rule.specs.declared.skip.Skip.TheVariants.{Omit, Backward, Forward}
use Rattle.cal_rrule.specs.Looks.{AreMissing, IsYearLook, look_year}
use Rattle.cal_rrule.specs.NearDays.{IsNearList}
use Rattle.cal_rrule.specs.Occurrences.{IsKept}
use Rattle.cal_rrule.specs.PeriodSets.{IsPeriodSet}
use Rattle.cal_rrule.specs.Masks.{InRow, Marks}
use Rattle.cal_rrule.specs.Periods.{IsNamedInWeeks, IsNamedInYear, IsOfPeriod, IsOfPeriods, NoMonthDays, NoWeekdays, NoWeeks, NoYearDays}
use Rattle.cal_rrule.specs.Stretches.{InStretch, end_of}
use Rattle.cal_rrule.specs.Weeks.{BelongsTo, IsWeekNumber, IsWeekOf}
use Rattle.cal_rrule.specs.YearWeeks.{AreWeeksOf, HasStartWeekday, IsNamedAbout, IsOfWeekNumbers, IsYearWithin}
use Rattle.cal_rrule.specs.declared.missing.Missing.{Missing}
use Rattle.cal_rrule.specs.declared.year_look.YearLook.{YearLook}
use Rattle.cal_rrule.proofs.ApartLemmas.{week-unique, year-unique}
use Rattle.cal_rrule.proofs.MaskLemmas.{le_test, lt_test}
use Rattle.cal_rrule.proofs.YearDayLemmas.{YearReaches, named-reaches}
use Rattle.cal_rrule.proofs.YearStepLemmas.{starts-order}
use Rattle.recurrence_sets.specs.PeriodBits.{has_day}
use Rattle.recurrence_sets.specs.declared.period_days.PeriodDays.{PeriodDays}

-- ---- which years name days in the weeks of a year

-- a year is some days longer than its first month
first-fewer : (c : CalendarList) → IsLawful c → (y : ℤ) → month_length c y 1 + 4 ≤ year_length c y
first-fewer c law y =
    let count = (law.count y).0 in
    let one : HasPlace c y 1 = (omega arith, omega (arith, count)) in
    let two : HasPlace c y 2 = (omega arith, omega (arith, count)) in
    let three : HasPlace c y 3 = (omega arith, omega (arith, count)) in
    let four : HasPlace c y 4 = (omega arith, omega (arith, count)) in
    let five : HasPlace c y 5 = (omega arith, omega (arith, count)) in
    omega (
      arith,
      days_before-first c y,
      days_before-next c y 1 one,
      days_before-next c y 2 two,
      days_before-next c y 3 three,
      days_before-next c y 4 four,
      days_before-later c y 5 (month_count c y + 1) five (omega (arith, count)),
      days_before-end c y (month_count c y + 1) (omega arith),
      (law.lengths y 2 two).0,
      (law.lengths y 3 three).0,
      (law.lengths y 4 four).0,
      (law.lengths y 5 five).0,
    )

-- a day of a week of a year that another year names
module _ (c : CalendarList) (law : IsLawful c) (y n : ℤ) (low : (start_of_year c y -ℤ pos 3) ≤ℤ n)
    (high : n <ℤ (start_of_year c y +ℤ pos (year_length c y) +ℤ pos 3)) where
  not-later : (skip : Skip) (z : ℤ) → (y +ℤ pos 2) ≤ℤ z → YearReaches skip c z n → ⊥
  not-later skip z order reach =
      let next = start_of_year-next c y in
      let later = start_of_year-later c (y +ℤ pos 1) z (omega (arith, signed, order)) in
      let long = first-fewer c law (y +ℤ pos 1) in
      by_skip skip reach next later long
    where
      by_skip : (s : Skip) → YearReaches s c z n → start_of_year c (y +ℤ pos 1) ≡ start_of_year c y +ℤ pos (year_length c y) →
          (start_of_year c (y +ℤ pos 1) +ℤ pos (year_length c (y +ℤ pos 1))) ≤ℤ start_of_year c z →
          month_length c (y +ℤ pos 1) 1 + 4 ≤ year_length c (y +ℤ pos 1) → ⊥
      by_skip Omit h next later long = omega (arith, signed, h.0, next, later, long, high)
      by_skip Backward h next later long = omega (arith, signed, h.0, next, later, long, high)
      by_skip Forward h next later long = omega (arith, signed, h.0, next, later, long, high)

  not-earlier : (skip : Skip) (z : ℤ) → (z +ℤ pos 2) ≤ℤ y → YearReaches skip c z n → ⊥
  not-earlier skip z order reach =
      let next = start_of_year-next c z in
      let later = start_of_year-later c (z +ℤ pos 1) y (omega (arith, signed, order)) in
      let long = first-fewer c law (z +ℤ pos 1) in
      by_skip skip reach next later long
    where
      by_skip : (s : Skip) → YearReaches s c z n → start_of_year c (z +ℤ pos 1) ≡ start_of_year c z +ℤ pos (year_length c z) →
          (start_of_year c (z +ℤ pos 1) +ℤ pos (year_length c (z +ℤ pos 1))) ≤ℤ start_of_year c y →
          month_length c (z +ℤ pos 1) 1 + 4 ≤ year_length c (z +ℤ pos 1) → ⊥
      by_skip Omit h next later long = omega (arith, signed, h.1, next, later, long, low)
      by_skip Backward h next later long = omega (arith, signed, h.1, next, later, long, low)
      by_skip Forward h next later long = omega (arith, signed, h.1, next, later, long, low)

  -- is the one before it, the one itself or the one after it
  pub named-about : (rule : RecurrenceRule) (missing : Missing) → AreMissing rule missing → (t : Date) (z : ℤ) →
      IsNamedInYear c rule t z n → IsNamedAbout c rule t y n
  named-about rule missing are t z named =
      let reach = named-reaches c law rule missing are t z n named in
      by_lt_z {P = IsNamedAbout c rule t y n} (y +ℤ pos 1) z
      (λ more. absurd (not-later rule.skip z (omega (arith, signed, more)) reach))
      (λ most. by_lt_z {P = IsNamedAbout c rule t y n} z (y -ℤ pos 1)
      (λ less. absurd (not-earlier rule.skip z (omega (arith, signed, less)) reach))
      (λ least. by_lt_z {P = IsNamedAbout c rule t y n} z y
      (λ before. inr (inl (at (y -ℤ pos 1) (omega (arith, signed, before, least)))))
      (λ from. by_lt_z {P = IsNamedAbout c rule t y n} y z
      (λ behind. inr (inr (at (y +ℤ pos 1) (omega (arith, signed, behind, most)))))
      (λ to. inl (at y (omega (arith, signed, from, to)))))))
    where
      at : (x : ℤ) → z ≡ x → IsNamedInYear c rule t x n
      at x same = subst (λ (v : ℤ). IsNamedInYear c rule t v n) same named

-- a day that is named about a year is named in some year
pub about-named : (c : CalendarList) (rule : RecurrenceRule) (t : Date) (y n : ℤ) → IsNamedAbout c rule t y n →
    (z : ℤ) × IsNamedInYear c rule t z n
about-named c rule t y n (inl named) = (y, named)
about-named c rule t y n (inr (inl named)) = (y -ℤ pos 1, named)
about-named c rule t y n (inr (inr named)) = (y +ℤ pos 1, named)

-- ---- the days of the weeks of a year

-- the days of three sets of one span
pub about-marks : (c : CalendarList) (rule : RecurrenceRule) (t : Date) (y before behind from to : ℤ)
    (one two three mid new : PeriodDays) → before ≡ y -ℤ pos 1 → behind ≡ y +ℤ pos 1 → to ≤ℤ (from +ℤ pos 448) →
    Marks one from to (IsNamedInYear c rule t y) → Marks two from to (IsNamedInYear c rule t before) →
    Marks three from to (IsNamedInYear c rule t behind) → mid.first ≡ one.first → new.first ≡ mid.first →
    ((n : ℤ) → n <ℤ (one.first +ℤ pos 448) → has_day mid n ≡ (has_day two n || has_day one n)) →
    ((n : ℤ) → n <ℤ (mid.first +ℤ pos 448) → has_day new n ≡ (has_day three n || has_day mid n)) →
    Marks new from to (IsNamedAbout c rule t y)
about-marks c rule t y before behind from to one two three mid new is_before is_behind few a b d first_mid first_new both all = record {
  first = first_new ∙ first_mid ∙ a.first;
  days = λ n above below.
      let inner = Decides-at (has_day mid n) (has_day two n || has_day one n)
      (both n (omega (arith, signed, a.first, below, few)))
      (Decides-or (has_day two n) (has_day one n) (b.days n above below) (a.days n above below)) in
      let outer = Decides-at (has_day new n) (has_day three n || has_day mid n)
      (all n (omega (arith, signed, a.first, first_mid, below, few)))
      (Decides-or (has_day three n) (has_day mid n) (d.days n above below) inner) in (
        λ h. ⊎_elim (λ p. inr (inr (subst (λ (v : ℤ). IsNamedInYear c rule t v n) is_behind p)))
            (λ q. ⊎_elim (λ p. inr (inl (subst (λ (v : ℤ). IsNamedInYear c rule t v n) is_before p))) (λ p. inl p) q) (outer.0 h),
        λ p. outer.1 (⊎_elim (λ own. inr (inr own))
            (λ q. ⊎_elim (λ e. inr (inl (subst (λ (v : ℤ). IsNamedInYear c rule t v n) (sym is_before) e)))
            (λ l. inl (subst (λ (v : ℤ). IsNamedInYear c rule t v n) (sym is_behind) l)) q) p),
      );
}

-- a week of a year begins among the year's weeks
module _ (c : CalendarList) (law : IsLawful c) (rule : RecurrenceRule) (t : Date) (start y first : ℤ) (count : ℕ)
    (at : start ≡ day_number c t) (are : AreWeeksOf c rule.week_start y first count)
    (low : (start_of_year c y -ℤ pos 3) ≤ℤ first) where
  -- a day of such a week is among the days of these weeks
  pub number-within : (n : ℤ) → IsOfWeekNumbers c rule y n → (first ≤ℤ n) × (n <ℤ (first +ℤ pos (7 * count)))
  number-within n p = by_week p.0 p.1 (belongs p.2 p.4)
    where
      belongs : (k : Place) → IsWeekNumber c y p.0 k → BelongsTo c y p.0
      belongs (FromFront j) is = is.1
      belongs (FromBack j) is = is.1

      by_week : (w : ℤ) → IsWeekOf rule.week_start n w → BelongsTo c y w → (first ≤ℤ n) × (n <ℤ (first +ℤ pos (7 * count)))
      by_week w week own =
          let found = (are.exact w week.0).0 own in
          (omega (arith, signed, found.2, week.1), omega (arith, signed, found.2, found.1, week.2))

  -- a day of such a week lies within three days of the year
  number-near : (n : ℤ) → IsOfWeekNumbers c rule y n →
      ((start_of_year c y -ℤ pos 3) ≤ℤ n) × (n <ℤ (start_of_year c y +ℤ pos (year_length c y) +ℤ pos 3))
  number-near n p = by_week p.0 p.1 (belongs p.2 p.4)
    where
      belongs : (k : Place) → IsWeekNumber c y p.0 k → BelongsTo c y p.0
      belongs (FromFront j) is = is.1
      belongs (FromBack j) is = is.1

      by_week : (w : ℤ) → IsWeekOf rule.week_start n w → BelongsTo c y w →
          ((start_of_year c y -ℤ pos 3) ≤ℤ n) × (n <ℤ (start_of_year c y +ℤ pos (year_length c y) +ℤ pos 3))
      by_week w week own = (omega (arith, signed, own.0, week.1), omega (arith, signed, own.1, week.2))

  -- the days that were marked, whose weeks are kept, and whose weekdays are
  pub weeks-named : (missing : Missing) → AreMissing rule missing → (one two three new : PeriodDays) →
      7 * count ≤ 448 →
      Marks one first (first +ℤ pos (7 * count)) (IsNamedAbout c rule t y) → two.first ≡ one.first → three.first ≡ two.first →
      ((n : ℤ) → first ≤ℤ n → n <ℤ (first +ℤ pos (7 * count)) →
      IsTrue (has_day two n) ↔ (IsTrue (has_day one n) × IsOfWeekNumbers c rule y n)) →
      ((n : ℤ) → first ≤ℤ n → n <ℤ (first +ℤ pos (7 * count)) →
      IsTrue (has_day three n) ↔ (IsTrue (has_day two n) × HasStartWeekday rule start n)) →
      ((n : ℤ) → three.first ≤ℤ n → n <ℤ (three.first +ℤ pos 448) →
      has_day new n ≡ (has_day three n && (int_le first n && int_lt n (first +ℤ pos (7 * count))))) →
      ((n : ℤ) → IsTrue (has_day new n) → (three.first ≤ℤ n) × (n <ℤ (three.first +ℤ pos 448))) →
      (n : ℤ) → IsTrue (has_day new n) ↔ IsNamedInWeeks c rule t y n
  weeks-named missing has one two three new few marks first_two first_three weeks weekdays cut in_row n = (
    λ h. let row = in_row n h in
        let p = (parts row.0 row.1).0 h in
        let q = (weekdays n p.1.0 p.1.1).0 p.0 in
        let r = (weeks n p.1.0 p.1.1).0 q.0 in record {
          week = r.1;
          named = about-named c rule t y n ((marks.days n p.1.0 p.1.1).0 r.0);
          weekday = λ a b d. q.1 a b d ∙ ap (λ (z : ℤ). floor_mod z 7) at;
        },
    λ p. let in_weeks = number-within n p.week in
        let near = number-near n p.week in
        let begins : three.first ≡ first = first_three ∙ first_two ∙ marks.first in
        let about = named-about c law y n near.0 near.1 rule missing has t p.named.0 p.named.1 in
        let r = (weeks n in_weeks.0 in_weeks.1).1 ((marks.days n in_weeks.0 in_weeks.1).1 about, p.week) in
        let q = (weekdays n in_weeks.0 in_weeks.1).1
        (r, λ a b d. p.weekday a b d ∙ sym (ap (λ (z : ℤ). floor_mod z 7) at)) in
        (parts (omega (arith, signed, in_weeks.0, begins)) (omega (arith, signed, in_weeks.1, begins, few))).1 (q, in_weeks),
  )
    where
      parts : three.first ≤ℤ n → n <ℤ (three.first +ℤ pos 448) →
          IsTrue (has_day new n) ↔ (IsTrue (has_day three n) × ((first ≤ℤ n) × (n <ℤ (first +ℤ pos (7 * count)))))
      parts above below = Decides-at (has_day new n) (has_day three n && (int_le first n && int_lt n (first +ℤ pos (7 * count))))
          (cut n above below)
          (Decides-and (has_day three n) (int_le first n && int_lt n (first +ℤ pos (7 * count))) (λ x. x, λ x. x)
          (Decides-and (int_le first n) (int_lt n (first +ℤ pos (7 * count))) (le_test first n) (lt_test n (first +ℤ pos (7 * count)))))

-- ---- periods of YEARLY by weeks

module _ (c : CalendarList) (law : IsLawful c) (rule : RecurrenceRule) (t : Date) (yearly : rule.frequency ≡ Yearly)
    (there : ¬ (NoWeeks rule)) (start y w : ℤ) (at : start ≡ day_number c t) (week : IsWeekOf rule.week_start start w)
    (own : BelongsTo c y w) where
  -- a day of a period is one that the weeks of its year name
  of-years : (k : ℕ) (n : ℤ) → IsNamedInWeeks c rule t (y +ℤ pos (k * rule.interval)) n ↔ IsOfPeriod c rule t k n
  of-years k n = (
    λ named. subst (λ (f : Frequency). IsOfPeriods f c rule t (k * rule.interval) n) (sym yearly)
        (λ _. (y, w, subst (λ (d : ℤ). IsWeekOf rule.week_start d w) at week, own, named), λ none. absurd (there none)),
    λ h. by_week ((subst (λ (f : Frequency). IsOfPeriods f c rule t (k * rule.interval) n) yearly h).0 there),
  )
    where
      by_week : (z v : ℤ) × IsWeekOf rule.week_start (day_number c t) v × BelongsTo c z v
          × IsNamedInWeeks c rule t (z +ℤ pos (k * rule.interval)) n → IsNamedInWeeks c rule t (y +ℤ pos (k * rule.interval)) n
      by_week p =
          let same : p.1 ≡ w = week-unique rule.week_start start p.1 w (subst (λ (d : ℤ). IsWeekOf rule.week_start d p.1) (sym at) p.2) week in
          let year : p.0 ≡ y = year-unique c p.0 y w (subst (λ (v : ℤ). BelongsTo c p.0 v) same p.3) own in
          subst (λ (z : ℤ). IsNamedInWeeks c rule t (z +ℤ pos (k * rule.interval)) n) year p.4

  -- no later period has a day up to a last one
  pub weeks-ended : (period years later : ℕ) (last n : ℤ) → years ≡ period * rule.interval →
      (last +ℤ pos 3) <ℤ start_of_year c (y +ℤ pos years) → period ≤ later → n ≤ℤ last → IsKept c rule t later n → ⊥
  weeks-ended period years later last n is behind order early kept =
      let named = (of-years later n).1 kept.0 in
      let product : period * rule.interval ≤ later * rule.interval = mul-le period rule.interval later rule.interval order (omega arith) in
      let starts = starts-order c (y +ℤ pos years) (y +ℤ pos (later * rule.interval)) (omega (arith, signed, is, product)) in
      let low = week-low (y +ℤ pos (later * rule.interval)) n named.week in
      omega (arith, signed, behind, early, starts, low)
    where
      week-low : (z m : ℤ) → IsOfWeekNumbers c rule z m → (start_of_year c z -ℤ pos 3) ≤ℤ m
      week-low z m p = by_place p.0 p.1 p.2 p.4
        where
          by_place : (v : ℤ) → IsWeekOf rule.week_start m v → (k : Place) → IsWeekNumber c z v k → (start_of_year c z -ℤ pos 3) ≤ℤ m
          by_place v of (FromFront k) number = omega (arith, signed, number.1.0, of.1)
          by_place v of (FromBack k) number = omega (arith, signed, number.1.0, of.1)

  -- the days of a period
  pub weeks-period : (period years : ℕ) (found : ℤ) (days : PeriodDays) → found ≡ y +ℤ pos years → years ≡ period * rule.interval →
      ((n : ℤ) → IsTrue (has_day days n) → InRow days n) →
      ((n : ℤ) → IsTrue (has_day days n) ↔ IsNamedInWeeks c rule t found n) →
      IsPeriodSet c rule t period days
  weeks-period period years found days at_year is row exact = record {
    exact = λ n _. here n;
    within = λ n of. row n ((here n).1 of);
    row = row;
  }
    where
      here : (n : ℤ) → IsTrue (has_day days n) ↔ IsOfPeriod c rule t period n
      here n =
          let same : found ≡ y +ℤ pos (period * rule.interval) = at_year ∙ ap (λ (k : ℕ). y +ℤ pos k) is in
          let own_year = subst (λ (z : ℤ). IsTrue (has_day days n) ↔ IsNamedInWeeks c rule t z n) same (exact n) in
          (λ h. (of-years period n).0 (own_year.0 h), λ p. own_year.1 ((of-years period n).1 p))

-- ---- the year of a period

-- a year that begins behind another one's end, and isn't the next one
pub behind-far : (c : CalendarList) (law : IsLawful c) (high : YearLook) (y last : ℤ) → IsYearLook c high → InStretch (look_year high) last →
    (last +ℤ pos 1) <ℤ start_of_year c y → ¬ (y ≡ high.year +ℤ pos 1) → (last +ℤ pos 3) <ℤ start_of_year c y
behind-far c law high y last is within behind other =
    by_lt_z {P = (last +ℤ pos 3) <ℤ start_of_year c y} (high.year +ℤ pos 1) y
    (λ more. let next = start_of_year-next c high.year in
    let later = start_of_year-later c (high.year +ℤ pos 1) y more in
    let long = first-fewer c law (high.year +ℤ pos 1) in
    omega (arith, signed, is.is_start, is.is_whole, within.1, next, later, long))
    (λ most. absurd (other (omega (arith, signed, most, least))))
  where
    least : (high.year +ℤ pos 1) ≤ℤ y
    least = by_lt_z {P = (high.year +ℤ pos 1) ≤ℤ y} y (high.year +ℤ pos 1)
        (λ less. let order = starts-order c y high.year (omega (arith, signed, less)) in
        absurd (omega (arith, signed, order, is.is_start, within.0, behind)))
        (λ ge. ge)

-- and the next one
pub behind-next : (c : CalendarList) (high : YearLook) (y last : ℤ) → IsYearLook c high → y ≡ high.year +ℤ pos 1 →
    (last +ℤ pos 3) <ℤ end_of (look_year high) → (last +ℤ pos 3) <ℤ start_of_year c y
behind-next c high y last is same behind =
    let starts = ap (start_of_year c) same in
    omega (arith, signed, starts, start_of_year-next c high.year, is.is_start, is.is_whole, behind)

-- ---- the start's weekday

-- a part that is there names days
pub silent-fails : (rule : RecurrenceRule) (missing : Missing) → AreMissing rule missing →
    (missing.year_days && (missing.month_days && missing.weekdays)) ≡ false →
    NoYearDays rule → NoMonthDays rule → NoWeekdays rule → ⊥
silent-fails rule missing are fails a b d =
    true≢false (sym (rw (are.no_year_days.1 a, are.no_month_days.1 b, are.no_weekdays.1 d) refl) ∙ fails)

pub weekday-all : (old : Bool) (rule : RecurrenceRule) (start n : ℤ) → (NoYearDays rule → NoMonthDays rule → NoWeekdays rule → ⊥) →
    IsTrue old ↔ (IsTrue old × HasStartWeekday rule start n)
weekday-all old rule start n some = (λ h. (h, λ a b d. absurd (some a b d)), λ p. p.0)

-- a week belongs to a year
pub year-finds : (c : CalendarList) → IsLawful c → (w : ℤ) → (y : ℤ) × BelongsTo c y w
year-finds c law w =
    let on = on-finds c law (w +ℤ pos 3) in
    let within = date-in_year c on.0 on.1.date in
    (on.0.year, (omega (arith, signed, on.1.day), omega (arith, signed, on.1.day, within, on.1.date.day.0)))

-- a year that begins behind a day begins behind the day's year
pub behind-all : (c : CalendarList) (high : YearLook) (y last : ℤ) → IsYearLook c high → InStretch (look_year high) last →
    (last +ℤ pos 1) <ℤ start_of_year c y → (last +ℤ pos 3) <ℤ end_of (look_year high) → (last +ℤ pos 3) <ℤ start_of_year c y
behind-all c high y last is within behind far =
    let order = starts-order c (high.year +ℤ pos 1) y least in
    omega (arith, signed, order, start_of_year-next c high.year, is.is_start, is.is_whole, far)
  where
    least : (high.year +ℤ pos 1) ≤ℤ y
    least = by_lt_z {P = (high.year +ℤ pos 1) ≤ℤ y} y (high.year +ℤ pos 1)
        (λ less. let order = starts-order c y high.year (omega (arith, signed, less)) in
        absurd (omega (arith, signed, order, is.is_start, within.0, behind)))
        (λ ge. ge)

-- the year that a start's week belongs to, by the start's year
module _ (c : CalendarList) (law : IsLawful c) (own : YearLook) (day w y : ℤ) (is : IsYearLook c own) (within : InStretch (look_year own) day)
    (low : w ≤ℤ day) (high : day <ℤ (w +ℤ pos 7)) (belongs : BelongsTo c y w) where
  pub week-behind : end_of (look_year own) ≤ℤ (w +ℤ pos 3) → y ≡ own.year +ℤ pos 1
  week-behind far =
      let next = start_of_year-next c own.year in
      let long = first-fewer c law (own.year +ℤ pos 1) in
      year-unique c y (own.year +ℤ pos 1) w belongs
      (omega (arith, signed, next, is.is_start, is.is_whole, far), omega (arith, signed, next, is.is_start, is.is_whole, long, within.1, low))

  pub week-own : own.first ≤ℤ (w +ℤ pos 3) → (w +ℤ pos 3) <ℤ end_of (look_year own) → y ≡ own.year
  week-own from to = year-unique c y own.year w belongs (omega (arith, signed, is.is_start, from), omega (arith, signed, is.is_start, is.is_whole, to))

  pub week-before : (w +ℤ pos 3) <ℤ own.first → y ≡ own.year -ℤ pos 1
  week-before near =
      let same : (own.year -ℤ pos 1) +ℤ pos 1 ≡ own.year = omega (arith, signed) in
      let next = start_of_year-next c (own.year -ℤ pos 1) in
      let starts = ap (start_of_year c) same in
      let long = first-fewer c law (own.year -ℤ pos 1) in
      year-unique c y (own.year -ℤ pos 1) w belongs
      (omega (arith, signed, next, starts, is.is_start, long, within.0, high), omega (arith, signed, next, starts, is.is_start, near))

-- a year up to a later one begins near the valid days, where it ends from the first of them on
pub begins-near : (c : CalendarList) (look found : YearLook) (last : ℤ) (years : ℕ) → IsYearLook c look → IsYearLook c found →
    found.year ≡ look.year +ℤ pos years → negsuc 365242498 ≤ℤ end_of (look_year look) → look.days ≤ 403 → IsValidDay last →
    found.first ≤ℤ (last +ℤ pos 1) → IsBetween (neg_ℤ (pos 365243000)) (pos 365243000) found.first
begins-near c look found last years one two same end short valid begins =
    let order = starts-order c look.year found.year (omega (arith, signed, same)) in
    (omega (arith, signed, order, one.is_start, two.is_start, end, short), omega (arith, signed, begins, valid))

-- years of periods are few
pub years-few : (period every : ℕ) → period < 4294967296 → every < 4294967296 → period * every < 18446744073709551615
years-few period every a b =
    let product : period * every ≤ 4294967295 * 4294967295 = mul-le period every 4294967295 4294967295 (omega (arith, a)) (omega (arith, b)) in
    omega (arith, product)

pub within-same : (c : CalendarList) (y z last : ℤ) (found : Option YearLook) → y ≡ z → IsYearWithin c y last found → IsYearWithin c z last found
within-same c y z last found same given = subst (λ (v : ℤ). IsYearWithin c v last found) same given

-- ---- few periods

-- the year of a week near the valid days is one that fields can name
pub week-field : (c : CalendarList) (law : IsLawful c) → IsNearList c → (w : ℤ) →
    IsBetween (neg_ℤ (pos 365253000)) (pos 365253000) (w +ℤ pos 3) → IsFieldYear (year-finds c law w).0
unfolding year-finds
week-field c law near w within = let on = on-finds c law (w +ℤ pos 3) in near.years (w +ℤ pos 3) on.0 within on.1

-- and so is a year that begins near them
pub first-field : (c : CalendarList) → IsLawful c → IsNearList c → (look : YearLook) → IsYearLook c look →
    IsBetween (neg_ℤ (pos 365243000)) (pos 365243000) look.first → IsFieldYear look.year
first-field c law near look is within =
    near.years look.first (date look.year 1 1) (omega (arith, signed, within.0), omega (arith, signed, within.1))
    (record { date = first-date c look.year law; day = day_number-first c look.year ∙ sym is.is_start })

-- it isn't before the year behind the day's
pub behind-least : (c : CalendarList) (high : YearLook) (y last : ℤ) → IsYearLook c high → InStretch (look_year high) last →
    (last +ℤ pos 1) <ℤ start_of_year c y → (high.year +ℤ pos 1) ≤ℤ y
behind-least c high y last is within behind = by_lt_z {P = (high.year +ℤ pos 1) ≤ℤ y} y (high.year +ℤ pos 1)
    (λ less. let order = starts-order c y high.year (omega (arith, signed, less)) in
    absurd (omega (arith, signed, order, is.is_start, within.0, behind)))
    (λ ge. ge)
