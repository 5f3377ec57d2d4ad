-- Whether a year names a day, by its months and days or by its weeks.
use Rattle.std.proofs.Common.{◌≡◌, ℕ, ap, subst, arith, ℤ, pos, ◌+ℤ◌, ◌-ℤ◌, ◌≤ℤ◌}
use Rattle.std.proofs.lemmas.Int.{by_lt_z}
use Rattle.cal_days.proofs.Signed.{signed}
use Rattle.cal_days.specs.Division.{floor_mod}
use Rattle.cal_types.specs.CalendarList.{CalendarList, Date, HasPlace, IsDate, IsLawful, IsOn, date, day_number, month_length, start_of_year}
use Rattle.cal_types.specs.DayDates.{date_on}
use Rattle.cal_types.proofs.DayDateLemmas.{date_on-on}
use Rattle.cal_types.proofs.ListLemmas.{date-in_year, start_of_year-later, start_of_year-next, year_length-some}
use Rattle.cal_rule.specs.declared.place_set.Place.{Place}
use Rattle.cal_rule.specs.declared.place_set.Place.TheVariants.{FromFront, FromBack}
use Rattle.cal_rule.specs.declared.rule.RecurrenceRule.{RecurrenceRule}
use Rattle.cal_rule.specs.declared.skip.Skip.{Skip}
use Rattle.cal_rule.specs.declared.skip.Skip.TheVariants.{Omit, Backward, Forward}
use Rattle.cal_rrule.proofs.ApartLemmas.{week-unique, year-unique}
use Rattle.cal_rrule.proofs.WeeklyStartLemmas.{week-finds}
use Rattle.cal_rrule.specs.Looks.{Reaches}
use Rattle.cal_rrule.specs.Periods.{IsNamedInWeeks, IsNamedInYear, IsOfYears, IsYearDay, NoDays, NoMonthDays, NoMonths, NoYearDays}
use Rattle.cal_rrule.specs.Stretches.{InStretch, NamesDay, Stretch, end_of, month_stretch, year_stretch}
use Rattle.cal_rrule.specs.Weeks.{BelongsTo, IsWeekNumber, IsWeekOf}
use Rattle.cal_rrule.specs.laws.MonthlyApart.{named-reach}
use Rattle.rule_lists.proofs.DayDeciding.{given, lacks_days, lacks_month_days, lacks_months, lacks_weekdays, lacks_weeks, lacks_year_days, names_day, of_weekdays, week_number}
use Rattle.rule_lists.proofs.Deciding.{both, denied, implied, is_same, like, of_one, some_between, three}
use Rattle.rule_lists.proofs.MonthDeciding.{year_month-near, year_month_day}
use Rattle.rule_lists.proofs.SetDeciding.{some_place}

-- ---- where the days of years and months lie

-- days within reach of a stretch lie at most one day before or behind it
pub reach-bounds : (skip : Skip) (s : Stretch) (n : ℤ) → Reaches skip s n → ((s.first -ℤ pos 1) ≤ℤ n) × (n ≤ℤ end_of s)
reach-bounds Omit s n h = (omega (arith, signed, h.0), omega (arith, signed, h.1))
reach-bounds Backward s n h = (h.0, omega (arith, signed, h.1))
reach-bounds Forward s n h = (omega (arith, signed, h.0), omega (arith, signed, h.1))

pub named-bounds : (skip : Skip) (s : Stretch) (d : Place) (n : ℤ) → NamesDay skip s d n → ((s.first -ℤ pos 1) ≤ℤ n) × (n ≤ℤ end_of s)
named-bounds skip s d n h = reach-bounds skip s n (named-reach skip s d n h)

pub start-rises : (c : CalendarList) (y z : ℤ) → y ≤ℤ z → start_of_year c y ≤ℤ start_of_year c z
start-rises c y z le =
    by_lt_z {P = start_of_year c y ≤ℤ start_of_year c z} y z (λ lt. omega (arith, signed, start_of_year-later c y z lt))
    (λ ge. let same : start_of_year c y ≡ start_of_year c z = ap (start_of_year c) (omega (arith, signed, le, ge)) in omega (arith, signed, same))

month-in_year : (c : CalendarList) → IsLawful c → (m : ℤ × ℕ) → HasPlace c m.0 m.1 →
    (start_of_year c m.0 ≤ℤ (month_stretch c m).first) × (end_of (month_stretch c m) ≤ℤ start_of_year c (m.0 +ℤ pos 1))
month-in_year c law m place =
    let some = (law.lengths m.0 m.1 place).0 in
    let last : IsDate c (date m.0 m.1 (month_length c m.0 m.1)) = record { place = place; day = (some, omega arith) } in
    (omega (arith, signed), omega (arith, signed, date-in_year c (date m.0 m.1 (month_length c m.0 m.1)) last, start_of_year-next c m.0))

-- a day lies in the year of its date
in-year : (c : CalendarList) (n : ℤ) (t : Date) → IsOn c n t → InStretch (year_stretch c t.year) n
in-year c n t on = let within = date-in_year c t on.date in (omega (arith, signed, on.day), omega (arith, signed, on.day, within, on.date.day.0))

module _ (c : CalendarList) (law : IsLawful c) (rule : RecurrenceRule) (t : Date) where
  year_day : (y n : ℤ) → Dec (IsYearDay c rule y n)
  year_day y n = some_place rule.year_days (λ d. names_day rule.skip (year_stretch c y) d n)

  pub named_in_year : (y n : ℤ) → Dec (IsNamedInYear c rule t y n)
  named_in_year y n =
      like (λ p. record { month_day = p.0; year_day = p.1; weekday = p.2 }) (λ k. (k.month_day, k.year_day, k.weekday))
      (three (year_month_day c law rule t y n) (implied (denied (lacks_year_days rule)) (year_day y n))
      (implied (denied (lacks_weekdays rule)) (of_weekdays c law rule n)))

  -- ---- the years that may name a day

  -- a day that a year names lies from the day before the year on, and up to the end of the next year
  pub named-near : (y n : ℤ) → IsNamedInYear c rule t y n → ((start_of_year c y -ℤ pos 1) ≤ℤ n) × (n ≤ℤ start_of_year c (y +ℤ pos 2))
  named-near y n h = by (both (lacks_month_days rule) (denied (lacks_days rule))) (both (lacks_months rule) (denied (lacks_year_days rule)))
    where
      Near : Type 0
      Near = ((start_of_year c y -ℤ pos 1) ≤ℤ n) × (n ≤ℤ start_of_year c (y +ℤ pos 2))

      by_month : (found : ℤ × ℕ) → HasPlace c found.0 found.1 → (y ≤ℤ found.0) × (found.0 ≤ℤ (y +ℤ pos 1)) →
          (((month_stretch c found).first -ℤ pos 1) ≤ℤ n) × (n ≤ℤ end_of (month_stretch c found)) → Near
      by_month found place near at =
          let within = month-in_year c law found place in
          let low = start-rises c y found.0 near.0 in
          let high = start-rises c (found.0 +ℤ pos 1) (y +ℤ pos 2) (omega (arith, signed, near.1)) in
          (omega (arith, signed, within.0, low, at.0), omega (arith, signed, within.1, high, at.1))

      by_year : IsYearDay c rule y n → Near
      by_year (d, has, names) =
          let at = named-bounds rule.skip (year_stretch c y) d n names in
          let high = start-rises c (y +ℤ pos 1) (y +ℤ pos 2) (omega (arith, signed)) in
          (at.0, omega (arith, signed, at.1, high, start_of_year-next c y))

      by : Dec (NoMonthDays rule × ¬ (NoDays rule)) → Dec (NoMonths rule × ¬ (NoYearDays rule)) → Near
      by (no there) months =
          let (found, is, d, says, names) = h.month_day.0 there in
          let near = year_month-near c law rule t y found is in
          by_month found near.0 near.1 (named-bounds rule.skip (month_stretch c found) d n names)
      by (yes missing) (no some) =
          let (found, is, within) = h.month_day.1 missing some in
          let near = year_month-near c law rule t y found is in
          by_month found near.0 near.1 (omega (arith, signed, within.0), omega (arith, signed, within.1))
      by (yes missing) (yes days) = by_year (h.year_day days.1)

  -- so it is one of four years
  year-near : (y n : ℤ) → IsNamedInYear c rule t y n → let u = (date_on c n).year in ((u -ℤ pos 2) ≤ℤ y) × (y ≤ℤ (u +ℤ pos 1))
  year-near y n h = (low, high)
    where
      u : ℤ
      u = (date_on c n).year

      near : ((start_of_year c y -ℤ pos 1) ≤ℤ n) × (n ≤ℤ start_of_year c (y +ℤ pos 2))
      near = named-near y n h

      within : InStretch (year_stretch c u) n
      within = in-year c n (date_on c n) (date_on-on c law n)

      low : (u -ℤ pos 2) ≤ℤ y
      low =
          by_lt_z {P = (u -ℤ pos 2) ≤ℤ y} (y +ℤ pos 2) u
          (λ lt. absurd (omega (arith, signed, start_of_year-later c (y +ℤ pos 2) u lt, year_length-some c law (y +ℤ pos 2), near.1, within.0)))
          (λ ge. omega (arith, signed, ge))

      high : y ≤ℤ (u +ℤ pos 1)
      high =
          by_lt_z {P = y ≤ℤ (u +ℤ pos 1)} (u +ℤ pos 1) y
          (λ lt. absurd (omega (arith, signed, start_of_year-later c (u +ℤ pos 1) y lt, year_length-some c law (u +ℤ pos 1), start_of_year-next c u, near.0, within.1)))
          (λ le. le)

  -- ---- weeks

  -- what is said of the week of a day
  pub in_week_of : {R : ℤ → Type 0} → ((w : ℤ) → Dec (R w)) → (n : ℤ) → Dec ((w : ℤ) × IsWeekOf rule.week_start n w × R w)
  in_week_of decide n =
      let here = week-finds rule.week_start n in
      of_one here.0 here.1 (λ w is. week-unique rule.week_start n w here.0 is here.1) (decide here.0)

  some_year : (n : ℤ) → Dec ((z : ℤ) × IsNamedInYear c rule t z n)
  some_year n =
      let u = (date_on c n).year in
      some_between (λ z. named_in_year z n) (u -ℤ pos 2) (u +ℤ pos 1) (λ z h. year-near z n h)

  pub named_in_weeks : (y n : ℤ) → Dec (IsNamedInWeeks c rule t y n)
  named_in_weeks y n =
      like (λ p. record { week = p.0; named = p.1; weekday = p.2 }) (λ k. (k.week, k.named, k.weekday))
      (three (like (λ (w, week, (k, has, number)). (w, week, k, has, number)) (λ (w, week, k, has, number). (w, week, (k, has, number)))
      (in_week_of (λ w. some_place rule.weeks (λ k. week_number c y w k)) n))
      (some_year n)
      (implied (lacks_year_days rule) (implied (lacks_month_days rule) (implied (lacks_weekdays rule)
      (is_same (floor_mod n 7) (floor_mod (day_number c t) 7))))))

  -- the year and the week of the start
  abbrev pub start_week : ℤ
  start_week = (week-finds rule.week_start (day_number c t)).0

  pub start_week-of : IsWeekOf rule.week_start (day_number c t) start_week
  start_week-of = (week-finds rule.week_start (day_number c t)).1

  abbrev pub week_year : ℤ
  week_year = (date_on c (start_week +ℤ pos 3)).year

  pub week_year-of : BelongsTo c week_year start_week
  week_year-of = in-year c (start_week +ℤ pos 3) (date_on c (start_week +ℤ pos 3)) (date_on-on c law (start_week +ℤ pos 3))

  -- the year in which the weeks of the start's week are counted is one
  pub week_year-one : (y w : ℤ) → IsWeekOf rule.week_start (day_number c t) w → BelongsTo c y w → y ≡ week_year
  week_year-one y w week belongs =
      let same : w ≡ start_week = week-unique rule.week_start (day_number c t) w start_week week start_week-of in
      year-unique c y week_year start_week (subst (BelongsTo c y) same belongs) week_year-of

  of_weeks : (count : ℕ) (n : ℤ) → Dec ((y w : ℤ) × IsWeekOf rule.week_start (day_number c t) w × BelongsTo c y w × IsNamedInWeeks c rule t (y +ℤ pos count) n)
  of_weeks count n =
      like (λ named. (week_year, start_week, start_week-of, week_year-of, named))
      (λ (y, w, week, belongs, named). subst (λ (z : ℤ). IsNamedInWeeks c rule t (z +ℤ pos count) n) (week_year-one y w week belongs) named)
      (named_in_weeks (week_year +ℤ pos count) n)

  pub of_years : (count : ℕ) (n : ℤ) → Dec (IsOfYears c rule t count n)
  of_years count n = given (lacks_weeks rule) (of_weeks count n) (named_in_year (t.year +ℤ pos count) n)

-- a week with a number belongs to the year in which it is counted
pub numbered-belongs : (c : CalendarList) (y w : ℤ) (k : Place) → IsWeekNumber c y w k → BelongsTo c y w
numbered-belongs c y w (FromFront k) is = is.1
numbered-belongs c y w (FromBack k) is = is.1
