-- The days that a year names, part by part, and where they lie.
use Rattle.std.proofs.Common.{◌≡◌, ◌∙◌, ℕ, ◌+◌, ◌≤◌, ◌<◌, ◌↔◌, ◌&&◌, int_le, int_lt, not, IsTrue, Bool, true, false, ℤ, pos, ◌+ℤ◌, ◌-ℤ◌, ◌≤ℤ◌, ◌<ℤ◌, refl, sym, subst, arith}
use mathlib.Core.Bool.{true≢false}
use mathlib.Core.Logic.{⊎_elim}
use Rattle.std.proofs.lemmas.Bool.{cases_lt}
use Rattle.std.proofs.lemmas.Bool.Decides.{Decides-and, Decides-at}
use Rattle.cal_days.proofs.Signed.{by_bool, signed}
use Rattle.cal_types.specs.CalendarList.{CalendarList, Date, HasPlace, IsLawful, IsMonthsAfter, days_before, month_at, month_count, month_length, start_of_year, year_length}
use Rattle.cal_types.specs.Month.{MonthParts}
use Rattle.cal_types.proofs.ListLemmas.{day_number-first, days_before-end, days_before-first, days_before-later, days_before-next, first-place, month_number-injective, month_number-next, month_number-place, start_of_year-later, start_of_year-next, year_length-some}
use Rattle.cal_rule.specs.declared.rule.RecurrenceRule.{RecurrenceRule}
use Rattle.cal_rule.specs.declared.skip.Skip.{Skip}
use Rattle.cal_rule.specs.declared.skip.Skip.TheVariants.{Omit, Backward, Forward}
use Rattle.cal_rrule.specs.Looks.{AreMissing, IsYearLook, Reaches, look_year}
use Rattle.cal_rrule.specs.Masks.{Adds, InRow, IsNamedBy, Marks}
use Rattle.cal_rrule.specs.Periods.{IsNamedInYear, IsOfWeekdays, IsYearDay, NoDays, NoMonthDays, NoMonths, NoWeekdays, NoYearDays}
use Rattle.cal_rrule.specs.Stretches.{InStretch, Stretch, end_of, month_stretch, year_stretch}
use Rattle.cal_rrule.specs.YearMonths.{IsOfYearMonths, IsYearMonthDayOf, IsYearMonthOf, ReplacesAt}
use Rattle.cal_rrule.specs.laws.MonthlyApart.{in_reach, named-reach}
use Rattle.cal_rrule.specs.declared.missing.Missing.{Missing}
use Rattle.cal_rrule.specs.declared.year_look.YearLook.{YearLook}
use Rattle.cal_rrule.proofs.AskedLemmas.{there-by}
use Rattle.cal_rrule.proofs.MaskLemmas.{le_test, lt_test}
use Rattle.cal_rrule.proofs.MonthDayLemmas.{marks-added}
use Rattle.cal_rrule.proofs.YearLookLemmas.{no-days, year-stretch}
use Rattle.cal_rrule.proofs.YearMonthLemmas.{next-place, year-month}
use Rattle.recurrence_sets.specs.PeriodBits.{has_day}
use Rattle.recurrence_sets.specs.declared.period_days.PeriodDays.{PeriodDays}

-- BYYEARDAY
pub number-marks : (c : CalendarList) (rule : RecurrenceRule) (look : YearLook) (old new : PeriodDays) (from to : ℤ) →
    IsYearLook c look → old.first ≡ from → ((n : ℤ) → has_day old n ≡ false) →
    Adds old new (IsNamedBy rule.year_days rule.skip (look_year look)) → to ≤ℤ (from +ℤ pos 448) →
    Marks new from to (IsYearDay c rule look.year)
number-marks c rule look old new from to is first none adds few =
    subst (λ (s : Stretch). Marks new from to (IsNamedBy rule.year_days rule.skip s)) (year-stretch c look is)
    (marks-added old new from to (IsNamedBy rule.year_days rule.skip (look_year look)) first none adds few)

-- all days of a span
pub all-marks : (old new : PeriodDays) (from to : ℤ) (Is : ℤ → Type 0) → old.first ≡ from →
    ((n : ℤ) → has_day old n ≡ false) → Adds old new (λ n. (from ≤ℤ n) × (n <ℤ to)) → to ≤ℤ (from +ℤ pos 448) →
    ((n : ℤ) → Is n) → Marks new from to Is
all-marks old new from to Is first none adds few all =
    let marks = marks-added old new from to (λ n. (from ≤ℤ n) × (n <ℤ to)) first none adds few in
    record {
      first = marks.first;
      days = λ n above below. (λ _. all n, λ _. (marks.days n above below).1 (above, below));
    }

-- no part says anything of a month, or one does
by-no_days : {P : Type 0} (rule : RecurrenceRule) (missing : Missing) → AreMissing rule missing →
    (NoDays rule → P) → (¬ (NoDays rule) → P) → P
by-no_days rule missing are none some =
    by_bool ((missing.weeks && missing.year_days) && (missing.month_days && missing.weekdays))
    (λ f. none ((no-days rule missing are).0 f))
    (λ f. some (there-by (NoDays rule) _ (no-days rule missing are) f))

-- days of the month are given, or all days of it are named
by-month_days : {P : Type 0} (rule : RecurrenceRule) (missing : Missing) → AreMissing rule missing →
    (NoMonthDays rule × ¬ (NoDays rule) → P) → (¬ (NoMonthDays rule × ¬ (NoDays rule)) → P) → P
by-month_days {P} rule missing are all some = by_bool missing.month_days
    (λ e. by-no_days {P = P} rule missing are
    (λ none. some (λ both. both.1 none))
    (λ there. all (are.no_month_days.0 e, there)))
    (λ e. some (λ both. there-by (NoMonthDays rule) missing.month_days are.no_month_days e both.0))

-- BYYEARDAY is there, and neither BYMONTH nor BYMONTHDAY, by tests
pub free-test : (rule : RecurrenceRule) (missing : Missing) → AreMissing rule missing →
    IsTrue ((missing.months && missing.month_days) && not missing.year_days)
    ↔ ((NoMonths rule × NoMonthDays rule) × ¬ (NoYearDays rule))
free-test rule missing are =
    Decides-and (missing.months && missing.month_days) (not missing.year_days)
    (Decides-and missing.months missing.month_days are.no_months are.no_month_days)
    (other missing.year_days are.no_year_days)
  where
    other : (b : Bool) → IsTrue b ↔ NoYearDays rule → IsTrue (not b) ↔ ¬ (NoYearDays rule)
    other true same = (λ h. absurd (true≢false (sym h)), λ some. absurd (some (same.0 refl)))
    other false same = (λ _ no. true≢false (sym (same.1 no)), λ _. refl)

module _ (c : CalendarList) (rule : RecurrenceRule) (missing : Missing) (are : AreMissing rule missing)
    (start : MonthParts) (day : ℕ) (y : ℤ) where
  -- BYYEARDAY alone asks for nothing of months
  pub month-free : NoMonths rule → NoMonthDays rule → ¬ (NoYearDays rule) → (n : ℤ) → IsYearMonthDayOf c rule start day y n
  month-free months days there n = (
    λ not. absurd (not (days, λ none. there none.1)),
    λ _ ask. absurd (ask (months, there)),
  )

  -- and otherwise the days are those of the months
  pub month-days : ¬ ((NoMonths rule × NoMonthDays rule) × ¬ (NoYearDays rule)) →
      (n : ℤ) → IsOfYearMonths c rule start day y n ↔ IsYearMonthDayOf c rule start day y n
  month-days asks n = (
    λ p. (λ not. let q = p.2.0 not in (p.0, p.1, q.0, q.1, q.2), λ both _. (p.0, p.1, p.2.1 both)),
    λ h. by-month_days rule missing are
        (λ both. let p = h.1 both (λ free. asks ((free.0, both.0), free.1)) in
        (p.0, p.1, (λ not. absurd (not both), λ _. p.2)))
        (λ not. let p = h.0 not in
        (p.0, p.1, (λ _. (p.2, p.3, p.4), λ both. absurd (not both)))),
  )

-- the parts of a year's days, kept one by one
pub named-marks : (c : CalendarList) (rule : RecurrenceRule) (t : Date) (y : ℤ) (start : MonthParts) (day : ℕ)
    (one two three : PeriodDays) (from to : ℤ) → start ≡ month_at c t.year t.month → day ≡ t.day →
    Marks one from to (IsYearMonthDayOf c rule start day y) → two.first ≡ one.first → three.first ≡ two.first →
    ((n : ℤ) → from ≤ℤ n → n <ℤ to →
    IsTrue (has_day two n) ↔ (IsTrue (has_day one n) × (¬ (NoYearDays rule) → IsYearDay c rule y n))) →
    ((n : ℤ) → from ≤ℤ n → n <ℤ to →
    IsTrue (has_day three n) ↔ (IsTrue (has_day two n) × (¬ (NoWeekdays rule) → IsOfWeekdays c rule n))) →
    Marks three from to (IsNamedInYear c rule t y)
named-marks c rule t y start day one two three from to month same marks first_two first_three numbers weekdays = record {
  first = first_three ∙ first_two ∙ marks.first;
  days = λ n above below.
      let own = subst (λ (d : ℕ). Marks one from to (IsYearMonthDayOf c rule (month_at c t.year t.month) d y)) same
      (subst (λ (m : MonthParts). Marks one from to (IsYearMonthDayOf c rule m day y)) month marks) in
      let of_month = own.days n above below in
      let of_number = numbers n above below in
      let of_week = weekdays n above below in (
        λ h. let outer = of_week.0 h in let inner = of_number.0 outer.0 in
            record { month_day = of_month.0 inner.0; year_day = inner.1; weekday = outer.1 },
        λ p. of_week.1 (of_number.1 (of_month.1 p.month_day, p.year_day), p.weekday),
      );
}

-- where the days lie that a year names
abbrev pub YearReaches : Skip → CalendarList → ℤ → ℤ → Type 0
YearReaches Omit c y n = InStretch (year_stretch c y) n
YearReaches Backward c y n = ((start_of_year c y -ℤ pos 1) ≤ℤ n) × (n <ℤ end_of (year_stretch c y))
YearReaches Forward c y n = (start_of_year c y ≤ℤ n) × (n ≤ℤ (end_of (year_stretch c y) +ℤ pos (month_length c (y +ℤ pos 1) 1)))

-- a month of a year lies in it
month-within : (c : CalendarList) (y : ℤ) (i : ℕ) → HasPlace c y i → days_before c y i + month_length c y i ≤ year_length c y
month-within c y i place =
    omega (arith, days_before-later c y i (month_count c y + 1) place (omega (arith, place.1)), days_before-end c y (month_count c y + 1) (omega arith))

month-reach : (skip : Skip) (c : CalendarList) (y : ℤ) (i : ℕ) (n : ℤ) → HasPlace c y i → Reaches skip (month_stretch c (y, i)) n →
    YearReaches skip c y n
month-reach Omit c y i n place h = let m = month-within c y i place in (omega (arith, signed, h.0), omega (arith, signed, h.1, m))
month-reach Backward c y i n place h = let m = month-within c y i place in (omega (arith, signed, h.0), omega (arith, signed, h.1, m))
month-reach Forward c y i n place h = let m = month-within c y i place in (omega (arith, signed, h.0), omega (arith, signed, h.1, m))

-- the month after a year's last one
behind-reach : (c : CalendarList) (y : ℤ) (n : ℤ) → Reaches Forward (month_stretch c (y +ℤ pos 1, 1)) n → YearReaches Forward c y n
behind-reach c y n h =
    let first = day_number-first c (y +ℤ pos 1) in
    let next = start_of_year-next c y in
    (omega (arith, signed, h.0, first, next), omega (arith, signed, h.1, first, next))

after-reach : (c : CalendarList) → IsLawful c → (y : ℤ) (i : ℕ) (z : ℤ) (j : ℕ) (n : ℤ) → HasPlace c y i →
    IsMonthsAfter c y i (pos 1) z j → Reaches Forward (month_stretch c (z, j)) n → YearReaches Forward c y n
after-reach c law y i z j n place after h = ⊎_elim within behind (cases_lt i (month_count c y))
  where
    within : i < month_count c y → YearReaches Forward c y n
    within lt =
        let next : HasPlace c y (i + 1) = (omega arith, omega (arith, lt)) in
        let at = next-place c y i z j place after next in
        month-reach Forward c y (i + 1) n next
        (subst (λ (k : ℕ). Reaches Forward (month_stretch c (y, k)) n) at.1
        (subst (λ (x : ℤ). Reaches Forward (month_stretch c (x, j)) n) at.0 h))

    behind : month_count c y ≤ i → YearReaches Forward c y n
    behind ge =
        let at = month_number-injective c z j (y +ℤ pos 1) 1 after.place (first-place c (y +ℤ pos 1) law)
        (omega (arith, signed, after.moved, month_number-next c y, month_number-place c y i place.0, ge, place.1)) in
        behind-reach c y n
        (subst (λ (k : ℕ). Reaches Forward (month_stretch c (y +ℤ pos 1, k)) n) at.1
        (subst (λ (x : ℤ). Reaches Forward (month_stretch c (x, j)) n) at.0 h))

-- a month that a rule names in a year
found-reach : (c : CalendarList) → IsLawful c → (rule : RecurrenceRule) (missing : Missing) → AreMissing rule missing →
    (start : MonthParts) (y : ℤ) (found : ℤ × ℕ) (n : ℤ) → IsYearMonthOf c rule start y found →
    Reaches rule.skip (month_stretch c found) n → YearReaches rule.skip c y n
found-reach c law rule missing are start y found n is h =
    let at = (year-month c law rule missing are start y found).0 is in
    ⊎_elim (λ p. own at.0 at.1 p.0 p.1) (λ p. replaced at.0 at.1 rule.skip refl p.1) at.2
  where
    own : (i : ℕ) → HasPlace c y i → found.0 ≡ y → found.1 ≡ i → YearReaches rule.skip c y n
    own i place years places =
        month-reach rule.skip c y i n place
        (subst (λ (k : ℕ). Reaches rule.skip (month_stretch c (y, k)) n) places
        (subst (λ (x : ℤ). Reaches rule.skip (month_stretch c (x, found.1)) n) years h))

    replaced : (i : ℕ) → HasPlace c y i → (skip : Skip) → rule.skip ≡ skip → ReplacesAt skip c y i found → YearReaches rule.skip c y n
    replaced i place Omit same r = absurd r
    replaced i place Backward same r = own i place r.0 r.1
    replaced i place Forward same r =
        subst (λ (s : Skip). YearReaches s c y n) (sym same)
        (after-reach c law y i found.0 found.1 n place r
        (subst (λ (s : Skip). Reaches s (month_stretch c found) n) same h))

year-reach : (skip : Skip) (c : CalendarList) (y : ℤ) (n : ℤ) → Reaches skip (year_stretch c y) n → YearReaches skip c y n
year-reach Omit c y n h = h
year-reach Backward c y n h = h
year-reach Forward c y n h = (h.0, omega (arith, signed, h.1))

-- a day that a year names is within its reach
pub named-reaches : (c : CalendarList) → IsLawful c → (rule : RecurrenceRule) (missing : Missing) → AreMissing rule missing →
    (t : Date) (y n : ℤ) → IsNamedInYear c rule t y n → YearReaches rule.skip c y n
named-reaches c law rule missing are t y n is = by_bool missing.year_days without_number with_number
  where
    with_number : missing.year_days ≡ false → YearReaches rule.skip c y n
    with_number e =
        let by = is.year_day (there-by (NoYearDays rule) missing.year_days are.no_year_days e) in
        year-reach rule.skip c y n (named-reach rule.skip (year_stretch c y) by.0 n by.2)

    without_number : IsTrue missing.year_days → YearReaches rule.skip c y n
    without_number e = by-month_days rule missing are
        (λ both. let p = is.month_day.1 both (λ free. free.1 (are.no_year_days.0 e)) in
        found-reach c law rule missing are (month_at c t.year t.month) y p.0 n p.1 (in_reach rule.skip (month_stretch c p.0) n p.2))
        (λ not. let p = is.month_day.0 not in
        found-reach c law rule missing are (month_at c t.year t.month) y p.0 n p.1 (named-reach rule.skip (month_stretch c p.0) p.2 n p.4))

-- which lies from a day before the year to less than 32 days behind it
pub reach-bounds : (skip : Skip) (c : CalendarList) → IsLawful c → (y n : ℤ) → YearReaches skip c y n →
    ((start_of_year c y -ℤ pos 1) ≤ℤ n) × (n <ℤ (start_of_year c y +ℤ pos (year_length c y) +ℤ pos 32))
reach-bounds Omit c law y n h = (omega (arith, signed, h.0), omega (arith, signed, h.1))
reach-bounds Backward c law y n h = (h.0, omega (arith, signed, h.1))
reach-bounds Forward c law y n h =
    let most = (law.lengths (y +ℤ pos 1) 1 (first-place c (y +ℤ pos 1) law)).1 in
    (omega (arith, signed, h.0), omega (arith, signed, h.1, most))

-- so does a day that the year names
pub named-within : (c : CalendarList) → IsLawful c → (rule : RecurrenceRule) (missing : Missing) → AreMissing rule missing →
    (t : Date) (y n : ℤ) → IsNamedInYear c rule t y n →
    ((start_of_year c y -ℤ pos 1) ≤ℤ n) × (n <ℤ (start_of_year c y +ℤ pos (year_length c y) +ℤ pos 32))
named-within c law rule missing are t y n named =
    reach-bounds rule.skip c law y n (named-reaches c law rule missing are t y n named)

-- a year is longer than its first month
first-shorter : (c : CalendarList) → IsLawful c → (y : ℤ) → month_length c y 1 < year_length c y
first-shorter c law y =
    let first = first-place c y law in
    let second : HasPlace c y 2 = (omega arith, omega (arith, law.count y)) in
    omega (
      arith,
      days_before-first c y,
      days_before-next c y 1 first,
      month-within c y 2 second,
      (law.lengths y 2 second).0,
    )

-- the days of two years that aren't next to each other are in order
pub reach-apart : (skip : Skip) (c : CalendarList) → IsLawful c → (y z m n : ℤ) → (y +ℤ pos 2) ≤ℤ z →
    YearReaches skip c y m → YearReaches skip c z n → m <ℤ n
reach-apart skip c law y z m n order =
    let next = start_of_year-next c y in
    let later = start_of_year-later c (y +ℤ pos 1) z (omega (arith, signed, order)) in
    let some = year_length-some c law (y +ℤ pos 1) in
    by_skip skip next later some
  where
    by_skip : (s : Skip) → start_of_year c (y +ℤ pos 1) ≡ start_of_year c y +ℤ pos (year_length c y) →
        (start_of_year c (y +ℤ pos 1) +ℤ pos (year_length c (y +ℤ pos 1))) ≤ℤ start_of_year c z →
        0 < year_length c (y +ℤ pos 1) → YearReaches s c y m → YearReaches s c z n → m <ℤ n
    by_skip Omit next later some one two = omega (arith, signed, next, later, some, one.1, two.0)
    by_skip Backward next later some one two = omega (arith, signed, next, later, some, one.1, two.0)
    by_skip Forward next later some one two =
        omega (arith, signed, next, later, first-shorter c law (y +ℤ pos 1), one.1, two.0)

-- days that are kept within a span are all of a kind that has none outside of it
module _ (old new : PeriodDays) (from to : ℤ) (Is : ℤ → Type 0) (marks : Marks old from to Is) (same : new.first ≡ old.first)
    (few : to ≤ℤ (from +ℤ pos 448)) (within : (n : ℤ) → Is n → (from ≤ℤ n) × (n <ℤ to)) where
  pub kept-row : (n : ℤ) → Is n → InRow new n
  kept-row n is =
      let at = within n is in
      (omega (arith, signed, same, marks.first, at.0), omega (arith, signed, same, marks.first, at.1, few))

  pub kept-all : ((n : ℤ) → old.first ≤ℤ n → n <ℤ (old.first +ℤ pos 448) →
      has_day new n ≡ (has_day old n && (int_le from n && int_lt n to))) →
      (n : ℤ) → InRow new n → IsTrue (has_day new n) ↔ Is n
  kept-all both n row =
      let low : old.first ≤ℤ n = omega (arith, signed, same, row.0) in
      let high : n <ℤ (old.first +ℤ pos 448) = omega (arith, signed, same, row.1) in
      let parts = Decides-at (has_day new n) (has_day old n && (int_le from n && int_lt n to)) (both n low high)
      (Decides-and (has_day old n) (int_le from n && int_lt n to) (λ x. x, λ x. x)
      (Decides-and (int_le from n) (int_lt n to) (le_test from n) (lt_test n to))) in (
        λ h. let p = parts.0 h in (marks.days n p.1.0 p.1.1).0 p.0,
        λ is. let at = within n is in parts.1 ((marks.days n at.0 at.1).1 is, at),
      )
