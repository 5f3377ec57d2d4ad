-- Months of years, and weekdays in them.
use Rattle.std.proofs.Common.{◌≡◌, ◌<◌, ◌≤◌, ◌+◌, ◌-◌, ◌&&◌, ℕ, Bool, true, false, Option, Some, None, refl, sym, ap, subst, ◌∙◌, arith, ℤ, pos, neg_ℤ, ◌+ℤ◌, ◌-ℤ◌, ◌<ℤ◌, ◌≤ℤ◌}
use Rattle.std.specs.Ordering.{int_eq}
use Rattle.std.specs.Prelude.{nat_eq}
use Rattle.std.proofs.lemmas.Bool.{eqb-true}
use Rattle.std.proofs.lemmas.Bool.Decides.{nat_tests}
use Rattle.std.proofs.lemmas.Int.{by_lt_z, ints}
use Rattle.cal_anniversary.specs.YearlyDays.{IsOfYear}
use Rattle.cal_days.specs.Day.{IsBetween, IsCoveredYear, IsValidDay}
use Rattle.cal_days.specs.Division.{floor_mod}
use Rattle.cal_days.specs.Sums.{years_up}
use Rattle.cal_days.proofs.Signed.{signed}
use Rattle.cal_types.specs.CalendarList.{CalendarList, Date, HasPlace, IsDate, IsLawful, IsOn, date, day_number, month_at, month_length}
use Rattle.cal_types.specs.Month.{MonthParts, month_rank}
use Rattle.cal_types.specs.Weekday.{days_since_sunday}
use Rattle.cal_types.specs.declared.leaping.Leaping.TheVariants.{Exact}
use Rattle.cal_types.specs.declared.weekday.Weekday.{Weekday}
use Rattle.cal_types.proofs.DateTests.{and-left, and-right, true-and}
use Rattle.cal_types.proofs.ListLemmas.{on-unique}
use Rattle.cal_holidays.specs.MonthDays.{AreDaysOf, IsInMonth, IsMonthAt, IsOnly, is_date_of}
use Rattle.cal_holidays.specs.NamedDays.{HasWeekday, IsInYear, IsNthOf, IsNthWeekday}
use Rattle.cal_holidays.specs.Naming.{has_weekday, is_month, is_nth_day}
use Rattle.cal_holidays.specs.OwnDays.{IsValidOne}
use Rattle.cal_holidays.proofs.NthLemmas.{nth-true, true-nth}
use Rattle.cal_holidays.proofs.OwnDayLemmas.{one_place}

module _ (c : CalendarList) (m : MonthParts) (y : ℤ) where
  -- a day of a date's month
  in_month : (t : Date) (d : ℕ) → IsDate c t → 1 ≤ d → d ≤ month_length c t.year t.month → IsDate c (date t.year t.month d)
  in_month t d is some most = record { place = is.place; day = (some, most) }

  -- the days of the month of a date whose day is the first one
  pub month-at : (t : Date) (before : ℤ) (length : ℕ) → IsOfYear c Exact m 1 y (day_number c t) → AreDaysOf c t before length → IsMonthAt c m y before length
  month-at t before length is days =
      let same = on-unique c (day_number c t) is.date t is.on (record { date = days.date; day = refl }) in
      record {
        date = t;
        days = days;
        year = ap (λ (u : Date). u.year) (sym same) ∙ is.year;
        month = subst (λ (u : Date). month_at c u.year u.month ≡ m) same is.named.0;
      }

  -- the first day of a month, if it is valid
  first-of_year : (n : ℤ) (h : IsInMonth c m y n) → IsValidDay (day_number c (date h.date.year h.date.month 1)) → IsOfYear c Exact m 1 y (day_number c (date h.date.year h.date.month 1))
  first-of_year n h valid = record {
    date = date h.date.year h.date.month 1;
    on = record { date = in_month h.date 1 h.on.date (omega arith) (omega (arith, h.on.date.day)); day = refl };
    valid = valid;
    named = (h.month, refl);
    year = h.year;
  }

  -- a month without a valid first day has none in a year whose days are all valid
  pub covered-none : ((t : Date) → IsCoveredYear t.year → IsDate c t → IsValidDay (day_number c t)) → IsCoveredYear y → ((n : ℤ) → IsOfYear c Exact m 1 y n → ⊥)
      → (n : ℤ) → IsValidDay n → IsInMonth c m y n → ⊥
  covered-none law covered none n valid h =
      let first = date h.date.year h.date.month 1 in
      let is = in_month h.date 1 h.on.date (omega arith) (omega (arith, h.on.date.day)) in
      none (day_number c first) (first-of_year n h (law first (subst IsCoveredYear (sym h.year) covered) is))

  -- nor in another year, unless the first valid day lies in the month
  pub edge-none : (edge : ℤ) (t : Date) → edge ≡ neg_ℤ (pos 365242499) → IsOn c edge t → is_date_of c m y t ≡ false → ((n : ℤ) → IsOfYear c Exact m 1 y n → ⊥)
      → (n : ℤ) → IsValidDay n → IsInMonth c m y n → ⊥
  edge-none edge t e on not none n valid h =
      let u = h.date in
      let first = date u.year u.month 1 in
      let start : day_number c u ≡ day_number c first +ℤ pos (u.day - 1) = omega (arith, signed, u.day, h.on.date.day) in
      by_lt_z {P = ⊥} (day_number c first) edge
      (λ lt.
      let k = years_up (edge -ℤ day_number c first) in
      let d = k + 1 in
      let most : d ≤ month_length c u.year u.month = omega (arith, signed, lt, e, start, h.on.day, valid.0, h.on.date.day) in
      let day : day_number c (date u.year u.month d) ≡ edge = omega (arith, signed, lt) in
      let same = on-unique c edge (date u.year u.month d) t (record { date = in_month u d h.on.date (omega arith) most; day = day }) on in
      let months : is_month (month_at c u.year u.month) m ≡ true = let ranks = ap month_rank h.month in grind (arith, nat_tests, ranks) in
      let years : int_eq u.year y ≡ true = let is = h.year in grind (arith, ints, is) in
      let yes : is_date_of c m y t ≡ true = subst (λ (v : Date). is_date_of c m y v ≡ true) {x = date u.year u.month d} same (true-and _ _ months years) in
      let no : true ≡ false = sym yes ∙ not in absurd cc)
      (λ ge. none (day_number c first) (first-of_year n h (omega (arith, signed, ge, e), omega (arith, signed, start, h.on.day, valid.1))))

  module _ (law : IsLawful c) (nth : ℤ) (w : Weekday) (before : ℤ) (length : ℕ) (at : IsMonthAt c m y before length) where
    -- a day of the month by its number
    day_of : (n : ℤ) (h : IsNthWeekday c m nth w n) → h.date.year ≡ y → (n ≡ before +ℤ pos h.date.day) × (month_length c h.date.year h.date.month ≡ length)
    day_of n h year =
        let t = at.date in let u = h.date in
        let years : u.year ≡ t.year = year ∙ sym at.year in
        let place : HasPlace c t.year u.month = subst (λ (z : ℤ). HasPlace c z u.month) years h.on.date.place in
        let named : month_at c t.year u.month ≡ m = ap (λ (z : ℤ). month_at c z u.month) (sym years) ∙ h.month in
        let months = one_place c law t.year m u.month t.month place at.days.date.place named at.month in
        let same : day_number c (date u.year u.month u.day) ≡ day_number c (date t.year t.month u.day)
        = ap (λ (z : ℤ). day_number c (date z u.month u.day)) years ∙ ap (λ (i : ℕ). day_number c (date t.year i u.day)) months in
        let lengths : month_length c u.year u.month ≡ month_length c t.year t.month
        = ap (λ (z : ℤ). month_length c z u.month) years ∙ ap (month_length c t.year) months in
        (omega (arith, signed, same, at.days.start, h.on.day, at.days.date.day.0, h.on.date.day.0), lengths ∙ sym at.days.days)

    pub nth-one : (day : ℤ) (found : Option ℤ) → IsOnly nth w before length day
        → IsValidOne (λ n. (n ≡ day) × IsBetween (before +ℤ pos 1) (before +ℤ pos length) n) found
        → IsValidOne (λ n. IsNthWeekday c m nth w n × IsInYear c y n) found
    nth-one day None only none = λ n valid is.
        let h = is.0 in
        let years = ap (λ (v : Date). v.year) (on-unique c n h.date is.1.0 h.on is.1.1) ∙ is.1.2 in
        let here = day_of n h years in
        let d = h.date.day in
        let some : 1 ≤ d = h.on.date.day.0 in
        let most : d ≤ length = omega (arith, h.on.date.day.1, here.1) in
        let weekday : has_weekday w (before +ℤ pos d) ≡ true = let e = subst (HasWeekday w) here.0 h.weekday_is in grind (arith, nat_tests, e) in
        let place = subst (λ (l : ℕ). is_nth_day nth l d ≡ true) here.1 (true-nth nth _ d some h.place) in
        let same = (only d some most).0 (true-and _ _ weekday place) in
        none n valid (here.0 ∙ same, (omega (arith, signed, here.0, some), omega (arith, signed, here.0, most)))
    nth-one day (Some n) only ((e, within), valid) =
        let d = years_up (n -ℤ before) in
        let some : 1 ≤ d = omega (arith, signed, within.0) in
        let most : d ≤ length = omega (arith, signed, within.0, within.1) in
        let is : before +ℤ pos d ≡ n = omega (arith, signed, within.0) in
        let tests = (only d some most).1 (is ∙ e) in
        let t = at.date in
        let on : IsOn c n (date t.year t.month d) = record {
          date = in_month t d at.days.date some (omega (arith, most, at.days.days));
          day = omega (arith, signed, is, at.days.start, some, at.days.date.day.0);
        } in
        let place = nth-true nth length d some (and-right (has_weekday w (before +ℤ pos d)) _ tests) in (
          (
            record {
              date = date t.year t.month d;
              on = on;
              month = at.month;
              weekday_is = subst (HasWeekday w) is (eqb-true _ _ (and-left (has_weekday w (before +ℤ pos d)) _ tests));
              place = subst (λ (l : ℕ). IsNthOf nth l d) at.days.days place;
            },
            (date t.year t.month d, on, at.year),
          ),
          valid,
        )

-- where no valid day of the month lies in the year
pub nth-none : (c : CalendarList) (m : MonthParts) (y : ℤ) (nth : ℤ) (w : Weekday) → ((n : ℤ) → IsValidDay n → IsInMonth c m y n → ⊥)
    → IsValidOne (λ n. IsNthWeekday c m nth w n × IsInYear c y n) None
nth-none c m y nth w none n valid is =
    let h = is.0 in
    none n valid (record { date = h.date; on = h.on; year = ap (λ (v : Date). v.year) (on-unique c n h.date is.1.0 h.on is.1.1) ∙ is.1.2; month = h.month })
