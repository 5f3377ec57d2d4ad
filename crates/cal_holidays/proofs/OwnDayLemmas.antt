-- A rule has at most one own day in a year of its calendar, and that of a later year isn't earlier.
use Rattle.std.proofs.Common.{◌≡◌, ◌<◌, ◌≤◌, ◌+◌, inl, inr, ℕ, Bool, Option, Some, None, refl, sym, ap, subst, ◌∙◌, arith, ℤ, pos, ◌+ℤ◌, ◌-ℤ◌, ◌<ℤ◌, ◌≤ℤ◌}
use Rattle.std.specs.Prelude.{MatchOption}
use Rattle.std.proofs.lemmas.Int.{by_lt_z}
use Rattle.cal_anniversary.specs.FallingOn.{FallsOn}
use Rattle.cal_anniversary.specs.YearlyDays.{IsDayInYear, IsOfYear}
use Rattle.cal_anniversary.proofs.FallingOnLemmas.{falls-true, true-falls}
use Rattle.cal_anniversary.proofs.YearLemmas.{one_of_year, years_rise}
use Rattle.cal_days.specs.Day.{IsBetween, IsValidDay}
use Rattle.cal_days.specs.Division.{floor_mod}
use Rattle.cal_days.proofs.DivisionLemmas.{floor_parts}
use Rattle.cal_days.proofs.Signed.{by_lt, signed}
use Rattle.cal_types.specs.CalendarList.{CalendarList, Date, HasPlace, IsLawful, IsOn, day_number, days_before, month_at, month_length, start_of_year}
use Rattle.cal_types.specs.Month.{MonthParts, month_rank}
use Rattle.cal_types.specs.declared.leaping.Leaping.{Leaping}
use Rattle.cal_types.specs.declared.leaping.Leaping.TheVariants.{Exact}
use Rattle.cal_types.specs.declared.weekday.Weekday.{Weekday}
use Rattle.cal_types.proofs.AnniversaryLemmas.{anniversary-true, true-anniversary}
use Rattle.cal_types.proofs.ListLemmas.{on-unique}
use Rattle.cal_holidays.specs.NamedDays.{HasWeekday, IsInWeek, IsInYear, IsNthOf, IsNthWeekday, IsSpanDay, OwnDay}
use Rattle.cal_holidays.specs.OwnDays.{AreYearsOf, IsValidOne}
use Rattle.cal_holidays.specs.Rules.{Easter, Fixed, Nth, Rule, Span}
use Rattle.cal_holidays.specs.declared.holiday_rule.SpanWeek.{SpanWeek}
use Rattle.cal_holidays.specs.declared.holiday_rule.SpanWeek.TheVariants.{From, UpTo}
use Rattle.cal_holidays.specs.declared.own_days.YearSpan.{YearSpan}
use Rattle.cal_holidays.proofs.EasterLemmas.{easter_rises, of-easter}

-- a weekday in the week of a day that isn't earlier isn't earlier
pub week_rises : (week : SpanWeek) (w : Weekday) (a b m n : ℤ) → a ≤ℤ b → HasWeekday w m → HasWeekday w n → IsInWeek week a m → IsInWeek week b n → m ≤ℤ n
week_rises From w a b m n le p q h k = by_lt_z {P = m ≤ℤ n} n m
    (λ lt. absurd (omega (arith, signed, le, p, q, h.1, k.0, lt, floor_parts m 7 (omega arith), floor_parts n 7 (omega arith))))
    (λ ge. ge)
week_rises UpTo w a b m n le p q h k = by_lt_z {P = m ≤ℤ n} n m
    (λ lt. absurd (omega (arith, signed, le, p, q, h.1, k.0, lt, floor_parts m 7 (omega arith), floor_parts n 7 (omega arith))))
    (λ ge. ge)

-- the nth of a weekday in a month is one day
one_nth : (nth : ℤ) (length d e : ℕ) → IsNthOf nth length d → IsNthOf nth length e → d ≤ length → e ≤ length → (d < e + 7) × (e < d + 7)
one_nth nth length d e (inl (k, p, low, high)) (inl (j, q, from, to)) dl el =
    let same : k ≡ j = omega (arith, signed, p, q) in
    (omega (arith, same, low, high, from, to), omega (arith, same, low, high, from, to))
one_nth nth length d e (inl (k, p, low, high)) (inr (q, late)) dl el = absurd (omega (arith, signed, p, q))
one_nth nth length d e (inr (p, late)) (inl (j, q, from, to)) dl el = absurd (omega (arith, signed, p, q))
one_nth nth length d e (inr (p, late)) (inr (q, later)) dl el = (omega (arith, late, later, dl, el), omega (arith, late, later, dl, el))

one_weekday : (w : Weekday) (start m n : ℤ) (before d e : ℕ) → m ≡ start +ℤ pos (before + d) → n ≡ start +ℤ pos (before + e) → HasWeekday w m → HasWeekday w n
    → d < e + 7 → e < d + 7 → m ≡ n
one_weekday w start m n before d e p q h k low high =
    omega (arith, signed, p, q, h, k, low, high, floor_parts m 7 (omega arith), floor_parts n 7 (omega arith))

module _ (c : CalendarList) (law : IsLawful c) where
  -- a valid day on which a month and a day fall in a year
  pub falls-of_year : (leaping : Leaping) (m : MonthParts) (d : ℕ) (y n : ℤ) → FallsOn c leaping m d n → IsInYear c y n → IsValidDay n → IsOfYear c leaping m d y n
  falls-of_year leaping m d y n falls (t, on, year) valid =
      let is = anniversary-true c law leaping m d n (falls-true c law leaping m d n falls) in
      record { date = is.date; on = is.on; valid = valid; named = is.named; year = ap (λ (u : Date). u.year) (on-unique c n is.date t is.on on) ∙ year }

  pub of_year-falls : (leaping : Leaping) (m : MonthParts) (d : ℕ) (y n : ℤ) → IsOfYear c leaping m d y n → FallsOn c leaping m d n
  of_year-falls leaping m d y n is = true-falls c law leaping m d n (true-anniversary c law leaping m d n (record { date = is.date; on = is.on; named = is.named }))

  pub of_year-in : (leaping : Leaping) (m : MonthParts) (d : ℕ) (y n : ℤ) → IsOfYear c leaping m d y n → IsInYear c y n
  of_year-in leaping m d y n is = (is.date, is.on, is.year)

  -- the day that was found in a year
  pub of_year-one : (leaping : Leaping) (m : MonthParts) (d : ℕ) (y : ℤ) (day : Option ℤ) → IsDayInYear c leaping m d y day
      → IsValidOne (λ n. FallsOn c leaping m d n × IsInYear c y n) day
  of_year-one leaping m d y None none = λ n valid is. none n (falls-of_year leaping m d y n is.0 is.1 valid)
  of_year-one leaping m d y (Some n) is = ((of_year-falls leaping m d y n is, of_year-in leaping m d y n is), is.valid)

  yearly_rises : (leaping : Leaping) (m : MonthParts) (d : ℕ) (y z p q : ℤ) → y ≤ℤ z → IsOfYear c leaping m d y p → IsOfYear c leaping m d z q → p ≤ℤ q
  yearly_rises leaping m d y z p q le h k = by_lt_z {P = p ≤ℤ q} y z
      (λ lt. omega (arith, signed, years_rise c law p q h.date k.date h.on k.on (omega (arith, signed, lt, h.year, k.year))))
      (λ ge.
      let same : z ≡ y = omega (arith, signed, le, ge) in
      omega (arith, signed, one_of_year c law leaping m d y p q h (subst (λ (v : ℤ). IsOfYear c leaping m d v q) same k)))

  -- a year has a month in one place
  pub one_place : (y : ℤ) (m : MonthParts) (i j : ℕ) → HasPlace c y i → HasPlace c y j → month_at c y i ≡ m → month_at c y j ≡ m → i ≡ j
  one_place y m i j p q h k = by_lt {P = i ≡ j} i j
      (λ lt. absurd (omega (arith, law.rises y i j p q lt, ap month_rank (h ∙ sym k))))
      (λ ge. by_lt {P = i ≡ j} j i
      (λ gt. absurd (omega (arith, law.rises y j i q p gt, ap month_rank (k ∙ sym h))))
      (λ le. omega (arith, ge, le)))

  nth_one : (m : MonthParts) (nth : ℤ) (w : Weekday) (p q : ℤ) (h : IsNthWeekday c m nth w p) (k : IsNthWeekday c m nth w q) → h.date.year ≡ k.date.year → p ≡ q
  nth_one m nth w p q h k years =
      let t = h.date in let u = k.date in
      let place : HasPlace c t.year u.month = subst (λ (y : ℤ). HasPlace c y u.month) (sym years) k.on.date.place in
      let named : month_at c t.year u.month ≡ m = ap (λ (y : ℤ). month_at c y u.month) years ∙ k.month in
      let months = one_place t.year m t.month u.month h.on.date.place place h.month named in
      let lengths : month_length c u.year u.month ≡ month_length c t.year t.month = ap (λ (y : ℤ). month_length c y u.month) (sym years) ∙ ap (month_length c t.year) (sym months) in
      let starts : start_of_year c u.year ≡ start_of_year c t.year = ap (start_of_year c) (sym years) in
      let befores : days_before c u.year u.month ≡ days_before c t.year t.month = ap (λ (y : ℤ). days_before c y u.month) (sym years) ∙ ap (days_before c t.year) (sym months) in
      let d = t.day in let e = u.day in
      let near = one_nth nth (month_length c t.year t.month) d e h.place (subst (λ (l : ℕ). IsNthOf nth l e) lengths k.place) h.on.date.day.1 (omega (arith, k.on.date.day.1, lengths)) in
      one_weekday w (start_of_year c t.year -ℤ pos 1) p q (days_before c t.year t.month) d e
      (omega (arith, signed, h.on.day, h.on.date.day.0)) (omega (arith, signed, k.on.day, k.on.date.day.0, starts, befores)) h.weekday_is k.weekday_is near.0 near.1

  nth_rises : (m : MonthParts) (nth : ℤ) (w : Weekday) (y z p q : ℤ) → y ≤ℤ z → IsNthWeekday c m nth w p → IsInYear c y p → IsNthWeekday c m nth w q → IsInYear c z q → p ≤ℤ q
  nth_rises m nth w y z p q le h (t, on, year) k (u, there, later) =
      let first = ap (λ (v : Date). v.year) (on-unique c p h.date t h.on on) ∙ year in
      let second = ap (λ (v : Date). v.year) (on-unique c q k.date u k.on there) ∙ later in
      by_lt_z {P = p ≤ℤ q} y z
      (λ lt. omega (arith, signed, years_rise c law p q h.date k.date h.on k.on (omega (arith, signed, lt, first, second))))
      (λ ge.
      let same : h.date.year ≡ k.date.year = omega (arith, signed, first, second, le, ge) in
      omega (arith, signed, nth_one m nth w p q h k same))

  span_rises : (m : MonthParts) (d : ℕ) (week : SpanWeek) (w : Weekday) (y z p q : ℤ) → y ≤ℤ z → IsSpanDay c m d week w y p → IsSpanDay c m d week w z q → p ≤ℤ q
  span_rises m d week w y z p q le h k =
      let days = yearly_rises Exact m d y z h.day k.day le (falls-of_year Exact m d y h.day h.falls h.year h.valid) (falls-of_year Exact m d z k.day k.falls k.year k.valid) in
      week_rises week w h.day k.day p q days h.weekday_is k.weekday_is h.within k.within

  -- the own days of a rule
  pub own_rises : (rule : Rule) (y z m n : ℤ) → y ≤ℤ z → OwnDay c rule y m → IsValidDay m → OwnDay c rule z n → IsValidDay n → m ≤ℤ n
  own_rises (Fixed kind month d leaping) y z m n le p v q w =
      yearly_rises leaping month d y z m n le (falls-of_year leaping month d y m p.0 p.1 v) (falls-of_year leaping month d z n q.0 q.1 w)
  own_rises (Easter julian offset) y z m n le p v q w =
      let rises = easter_rises julian y z (m -ℤ offset) (n -ℤ offset) le (of-easter julian y (m -ℤ offset) p) (of-easter julian z (n -ℤ offset) q) in
      omega (arith, signed, rises)
  own_rises (Nth kind month nth weekday) y z m n le p v q w = nth_rises month nth weekday y z m n le p.0 p.1 q.0 q.1
  own_rises (Span kind month d week weekday) y z m n le p v q w = span_rises month d week weekday y z m n le p q

  -- the weekday that was found in the week of a day of a year
  pub span-one : (m : MonthParts) (d : ℕ) (week : SpanWeek) (w : Weekday) (y from day : ℤ) (found : Option ℤ) → IsOfYear c Exact m d y from → HasWeekday w day → IsInWeek week from day
      → MatchOption found (IsValidDay day → ⊥) (λ n. (n ≡ day) × IsValidDay day) → IsValidOne (IsSpanDay c m d week w y) found
  span-one m d week w y from day None is on within not = λ n valid h.
      let first = one_of_year c law Exact m d y h.day from (falls-of_year Exact m d y h.day h.falls h.year h.valid) is in
      let there = subst (λ (a : ℤ). IsInWeek week a n) first h.within in
      let up = week_rises week w from from n day (omega (arith, signed)) h.weekday_is on there within in
      let down = week_rises week w from from day n (omega (arith, signed)) on h.weekday_is within there in
      let same : n ≡ day = omega (arith, signed, up, down) in
      not (subst IsValidDay same valid)
  span-one m d week w y from day (Some n) is on within (e, valid) = (
    record {
      day = from;
      falls = of_year-falls Exact m d y from is;
      valid = is.valid;
      year = of_year-in Exact m d y from is;
      weekday_is = subst (HasWeekday w) (sym e) on;
      within = subst (IsInWeek week from) (sym e) within;
    },
    subst IsValidDay (sym e) valid,
  )

  pub span-none : (m : MonthParts) (d : ℕ) (week : SpanWeek) (w : Weekday) (y : ℤ) → ((n : ℤ) → IsOfYear c Exact m d y n → ⊥) → IsValidOne (IsSpanDay c m d week w y) None
  span-none m d week w y none n valid h = none h.day (falls-of_year Exact m d y h.day h.falls h.year h.valid)

  -- a day that isn't later lies in a year that isn't later
  pub years_order : (a b : ℤ) (t u : Date) → IsOn c a t → IsOn c b u → a ≤ℤ b → t.year ≤ℤ u.year
  years_order a b t u p q le = by_lt_z {P = t.year ≤ℤ u.year} u.year t.year
      (λ lt. absurd (omega (arith, signed, years_rise c law b a u t q p lt, le)))
      (λ ge. ge)

-- years that have the days of one property have those of one that says more
pub years-of : (Is Of : ℤ → ℤ → Type 0) (from to low high : ℤ) (span : YearSpan) → ((y n : ℤ) → Of y n → IsValidDay n → IsBetween low high n → (m : ℤ) × Is y m × IsValidDay m × IsBetween from to m)
    → AreYearsOf Is from to span → AreYearsOf Of low high span
years-of Is Of from to low high span weaker are = record {
  low = are.low;
  high = are.high;
  within = λ y n is valid between. let h = weaker y n is valid between in are.within y h.0 h.1 h.2 h.3;
}

-- the day whose week has a day lies at most six days from it
pub span_within : (week : SpanWeek) (day n : ℤ) → IsInWeek week day n → IsBetween (n -ℤ pos 6) (n +ℤ pos 6) day
span_within From day n h = (omega (arith, signed, h.1), omega (arith, signed, h.0))
span_within UpTo day n h = (omega (arith, signed, h.1), omega (arith, signed, h.0))
