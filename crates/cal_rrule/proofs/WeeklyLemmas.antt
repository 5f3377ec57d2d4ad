-- The days that WEEKLY keeps, by blocks of weeks.
use Rattle.std.proofs.Common.{◌≡◌, ◌∙◌, ℕ, ◌+◌, ◌-◌, ◌*◌, ◌<◌, ◌≤◌, ◌⊎◌, ◌↔◌, ◌&&◌, ◌||◌, IsTrue, int_le, int_lt, ℤ, pos, ◌+ℤ◌, ◌≤ℤ◌, ◌<ℤ◌, sym, ap, subst, arith}
use mathlib.Core.Logic.{inl, inr, ⊎_elim}
use Rattle.std.proofs.Math.Nat.{add-mul}
use Rattle.std.proofs.lemmas.Bool.{cases_lt}
use Rattle.std.proofs.lemmas.Bool.Decides.{Decides-and, Decides-at, Decides-or}
use Rattle.std.proofs.lemmas.Nat.{mul-le}
use Rattle.cal_days.specs.Division.{floor_mod}
use Rattle.cal_days.proofs.Signed.{signed}
use Rattle.cal_types.specs.CalendarList.{CalendarList, Date, day_number}
use Rattle.cal_rule.specs.declared.frequency.Frequency.{Frequency}
use Rattle.cal_rule.specs.declared.frequency.Frequency.TheVariants.{Weekly}
use Rattle.cal_rule.specs.declared.rule.RecurrenceRule.{RecurrenceRule}
use Rattle.cal_rrule.specs.Blocks.{IsOfBlock, IsOfBlocks, IsOfPeriodsFrom, weekly_periods}
use Rattle.cal_rrule.specs.Masks.{InRow, Marks}
use Rattle.cal_rrule.specs.Occurrences.{IsKept}
use Rattle.cal_rrule.specs.PeriodSets.{IsKeptSet, IsPeriodSet}
use Rattle.cal_rrule.specs.Periods.{IsNamedInWeek, IsOfPeriod, IsOfPeriods}
use Rattle.cal_rrule.specs.Weekly.{ArePeriodWeeks, IsPeriodWeek, IsWeeklyDay, block_start, week_from}
use Rattle.cal_rrule.specs.Weeks.{IsWeekOf, weeks_behind}
use Rattle.cal_rrule.proofs.ApartLemmas.{week-unique}
use Rattle.cal_rrule.proofs.MaskLemmas.{le_test, lt_test}
use Rattle.recurrence_sets.specs.PeriodBits.{has_day}
use Rattle.recurrence_sets.specs.declared.period_days.PeriodDays.{PeriodDays}

module _ (c : CalendarList) (rule : RecurrenceRule) (t : Date) (weekly : rule.frequency ≡ Weekly) (start w : ℤ)
    (at : start ≡ day_number c t) (is : IsWeekOf rule.week_start start w) where
  of_weekly : (k : ℕ) (n : ℤ) → IsOfPeriod c rule t k n → IsNamedInWeek c rule t (weeks_behind w (k * rule.interval)) n
  of_weekly k n h = by_week (subst (λ (f : Frequency). IsOfPeriods f c rule t (k * rule.interval) n) weekly h)
    where
      by_week : IsOfPeriods Weekly c rule t (k * rule.interval) n →
          IsNamedInWeek c rule t (weeks_behind w (k * rule.interval)) n
      by_week p =
          let own : IsWeekOf rule.week_start start p.0 = subst (λ (d : ℤ). IsWeekOf rule.week_start d p.0) (sym at) p.1 in
          subst (λ (v : ℤ). IsNamedInWeek c rule t (weeks_behind v (k * rule.interval)) n)
          (week-unique rule.week_start start p.0 w own is) p.2

  to_weekly : (k : ℕ) (n : ℤ) → IsNamedInWeek c rule t (weeks_behind w (k * rule.interval)) n → IsOfPeriod c rule t k n
  to_weekly k n h =
      subst (λ (f : Frequency). IsOfPeriods f c rule t (k * rule.interval) n) (sym weekly)
      (w, subst (λ (d : ℤ). IsWeekOf rule.week_start d w) at is, h)

  -- a day of a period is a day of its week that WEEKLY names
  period-week : (k : ℕ) (v n : ℤ) → v ≡ weeks_behind w (k * rule.interval) →
      IsOfPeriod c rule t k n ↔ ((v ≤ℤ n) × (n <ℤ (v +ℤ pos 7)) × IsWeeklyDay c rule start n)
  period-week k v n same = (there, λ p. here p.0 p.1 p.2)
    where
      floor : floor_mod start 7 ≡ floor_mod (day_number c t) 7
      floor = ap (λ (z : ℤ). floor_mod z 7) at

      there : IsOfPeriod c rule t k n → (v ≤ℤ n) × (n <ℤ (v +ℤ pos 7)) × IsWeeklyDay c rule start n
      there h =
          let named = of_weekly k n h in (
            subst (λ (z : ℤ). z ≤ℤ n) (sym same) named.within.0,
            subst (λ (z : ℤ). n <ℤ (z +ℤ pos 7)) (sym same) named.within.1,
            record {
              month = named.month;
              weekday = (named.weekday.0, λ none. named.weekday.1 none ∙ sym floor);
            },
          )

      here : v ≤ℤ n → n <ℤ (v +ℤ pos 7) → IsWeeklyDay c rule start n → IsOfPeriod c rule t k n
      here above below day = to_weekly k n (record {
        within = (subst (λ (z : ℤ). z ≤ℤ n) same above, subst (λ (z : ℤ). n <ℤ (z +ℤ pos 7)) same below);
        month = day.month;
        weekday = (day.weekday.0, λ none. day.weekday.1 none ∙ floor);
      })

  -- weeks of days that are marked are periods
  marked-weeks : (days : PeriodDays) (base count : ℕ) (to : ℤ) → days.first ≡ weeks_behind w (base * rule.interval) →
      Marks days days.first to (IsWeeklyDay c rule start) →
      ((j : ℕ) → j < count → (week_from days.first rule.interval j +ℤ pos 7) ≤ℤ to) →
      ArePeriodWeeks c rule t base days count
  marked-weeks days base count to begins marks room j low n =
      let v = week_from days.first rule.interval j in
      let same : v ≡ weeks_behind w ((base + j) * rule.interval) =
      omega (arith, signed, begins, add-mul base j rule.interval) in
      let period = period-week (base + j) v n same in
      let end = room j low in (
        λ p. period.1 (p.0, p.1, (marks.days n (omega (arith, signed, p.0)) (omega (arith, signed, p.1, end))).0 p.2),
        λ h. let p = period.0 h in
            (p.0, p.1, (marks.days n (omega (arith, signed, p.0)) (omega (arith, signed, p.1, end))).1 p.2),
      )

  -- a day of a block lies behind the block's start
  from_start : (block count : ℕ) (n : ℤ) → IsOfPeriodsFrom c rule t (block * weekly_periods rule.interval) count n →
      block_start w rule.interval block ≤ℤ n
  from_start block count n p =
      let i = rule.interval in
      let low = (of_weekly (block * weekly_periods i + p.0) n p.2.0).within.0 in
      omega (arith, signed, low, add-mul (block * weekly_periods i) p.0 i)

  -- no block from one on that begins behind a last day has a day up to it
  pub weeks-ended : (block later : ℕ) (last n : ℤ) → last <ℤ block_start w rule.interval block → block ≤ later →
      IsOfBlock c rule t later n → n ≤ℤ last → ⊥
  weeks-ended block later last n past order of early =
      let i = rule.interval in
      let q = weekly_periods i in
      let p : IsOfPeriodsFrom c rule t (later * q) q n =
      subst (λ (f : Frequency). IsOfBlocks f c rule t later n) weekly of in
      let low = from_start later q n p in
      let periods : block * q ≤ later * q = mul-le block q later q order (omega arith) in
      let weeks : block * q * i ≤ later * q * i = mul-le (block * q) i (later * q) i periods (omega arith) in
      omega (arith, signed, past, early, low, weeks)

  -- the days that are kept of a block
  pub block-kept : (block count weeks : ℕ) (from : ℤ) (days kept new : PeriodDays) → from ≡ block_start w rule.interval block →
      count ≡ weekly_periods rule.interval → weeks ≡ (count - 1) * rule.interval + 1 → (count - 1) * rule.interval ≤ 62 →
      Marks days from (from +ℤ pos (7 * weeks)) (IsWeeklyDay c rule start) → kept.first ≡ days.first → new.first ≡ kept.first →
      (ArePeriodWeeks c rule t (block * weekly_periods rule.interval) days count → (n : ℤ) → InRow kept n →
      IsTrue (has_day kept n) ↔ IsOfPeriodsFrom c rule t (block * weekly_periods rule.interval) count n) →
      ((n : ℤ) → kept.first ≤ℤ n → n <ℤ (kept.first +ℤ pos 448) →
      has_day new n ≡ (has_day kept n && (int_le from n && int_lt n (from +ℤ pos 448)))) →
      ((n : ℤ) → IsTrue (has_day new n) → (kept.first ≤ℤ n) × (n <ℤ (kept.first +ℤ pos 448))) →
      (n : ℤ) → IsTrue (has_day new n) ↔ IsOfBlock c rule t block n
  block-kept block count weeks from days kept new begins counts long few marks first_kept first_new holds cut row n = (
    λ has. let in_row = row n has in
        let p = (parts in_row.0 in_row.1).0 has in
        out ((holds are n in_row).0 p.0),
    λ of. let p = into of in
        let in_row = within p in
        (parts in_row.0 in_row.1).1
        ((holds are n in_row).1 p, (omega (arith, signed, in_row.0, same), omega (arith, signed, in_row.1, same))),
  )
    where
      i : ℕ
      i = rule.interval

      base : ℕ
      base = block * weekly_periods i

      to : ℤ
      to = from +ℤ pos (7 * weeks)

      same : kept.first ≡ from
      same = first_kept ∙ marks.first

      own : Marks days days.first to (IsWeeklyDay c rule start)
      own = subst (λ (f : ℤ). Marks days f to (IsWeeklyDay c rule start)) (sym marks.first) marks

      step : (j : ℕ) → j < count → j * i ≤ (count - 1) * i
      step j low = mul-le j i (count - 1) i (omega (arith, low)) (omega arith)

      room : (j : ℕ) → j < count → (week_from days.first i j +ℤ pos 7) ≤ℤ to
      room j low = omega (arith, signed, step j low, marks.first, long)

      are : ArePeriodWeeks c rule t base days count
      are = marked-weeks days base count to (marks.first ∙ begins) own room

      within : IsOfPeriodsFrom c rule t base count n → InRow kept n
      within p =
          let q = (are p.0 p.1 n).1 p.2.0 in
          (omega (arith, signed, q.0, first_kept), omega (arith, signed, q.1, first_kept, step p.0 p.1, few))

      out : IsOfPeriodsFrom c rule t base count n → IsOfBlock c rule t block n
      out p = subst (λ (f : Frequency). IsOfBlocks f c rule t block n) (sym weekly)
          (subst (λ (m : ℕ). IsOfPeriodsFrom c rule t base m n) counts p)

      into : IsOfBlock c rule t block n → IsOfPeriodsFrom c rule t base count n
      into of = subst (λ (m : ℕ). IsOfPeriodsFrom c rule t base m n) (sym counts)
          (subst (λ (f : Frequency). IsOfBlocks f c rule t block n) weekly of)

      parts : kept.first ≤ℤ n → n <ℤ (kept.first +ℤ pos 448) →
          IsTrue (has_day new n) ↔ (IsTrue (has_day kept n) × ((from ≤ℤ n) × (n <ℤ (from +ℤ pos 448))))
      parts low high = Decides-at (has_day new n) (has_day kept n && (int_le from n && int_lt n (from +ℤ pos 448))) (cut n low high)
          (Decides-and (has_day kept n) (int_le from n && int_lt n (from +ℤ pos 448)) (λ x. x, λ x. x)
          (Decides-and (int_le from n) (int_lt n (from +ℤ pos 448)) (le_test from n) (lt_test n (from +ℤ pos 448))))

-- the days of a set in a week
pub week-set : (c : CalendarList) (rule : RecurrenceRule) (t : Date) (k : ℕ) (days week : PeriodDays) (w : ℤ) →
    week.first ≡ days.first → days.first ≤ℤ w → (w +ℤ pos 7) ≤ℤ (days.first +ℤ pos 448) →
    ((n : ℤ) → days.first ≤ℤ n → n <ℤ (days.first +ℤ pos 448) →
    has_day week n ≡ (has_day days n && (int_le w n && int_lt n (w +ℤ pos 7)))) →
    ((n : ℤ) → IsTrue (has_day week n) → (days.first ≤ℤ n) × (n <ℤ (days.first +ℤ pos 448))) →
    IsPeriodWeek c rule t k days w → IsPeriodSet c rule t k week
week-set c rule t k days week w first above below both row same = record {
  exact = λ n in_row.
      let here = parts n (omega (arith, signed, in_row.0, first)) (omega (arith, signed, in_row.1, first)) in (
        λ has. let p = here.0 has in (same n).0 (p.1.0, p.1.1, p.0),
        λ of. let p = (same n).1 of in here.1 (p.2, (p.0, p.1)),
      );
  within = λ n of. let p = (same n).1 of in
      (omega (arith, signed, p.0, first, above), omega (arith, signed, p.1, first, below));
  row = λ n has. let p = row n has in (omega (arith, signed, p.0, first), omega (arith, signed, p.1, first));
}
  where
    parts : (n : ℤ) → days.first ≤ℤ n → n <ℤ (days.first +ℤ pos 448) →
        IsTrue (has_day week n) ↔ (IsTrue (has_day days n) × ((w ≤ℤ n) × (n <ℤ (w +ℤ pos 7))))
    parts n low high = Decides-at (has_day week n) (has_day days n && (int_le w n && int_lt n (w +ℤ pos 7))) (both n low high)
        (Decides-and (has_day days n) (int_le w n && int_lt n (w +ℤ pos 7)) (λ x. x, λ x. x)
        (Decides-and (int_le w n) (int_lt n (w +ℤ pos 7)) (le_test w n) (lt_test n (w +ℤ pos 7))))

-- a week before the last one is among the first 63
pub week-few : (j count interval : ℕ) → j < count → (count - 1) * interval ≤ 62 → j * interval ≤ 62
week-few j count interval low few =
    let product : j * interval ≤ (count - 1) * interval = mul-le j interval (count - 1) interval (omega (arith, low)) (omega arith) in
    omega (arith, product, few)

-- one week more
pub weeks-more : (c : CalendarList) (rule : RecurrenceRule) (t : Date) (base : ℕ) (days old week new : PeriodDays) (j : ℕ) →
    old.first ≡ days.first → new.first ≡ old.first →
    ((n : ℤ) → InRow old n → IsTrue (has_day old n) ↔ IsOfPeriodsFrom c rule t base j n) →
    IsKeptSet c rule t (base + j) week →
    ((n : ℤ) → n <ℤ (old.first +ℤ pos 448) → has_day new n ≡ (has_day week n || has_day old n)) →
    (n : ℤ) → InRow new n → IsTrue (has_day new n) ↔ IsOfPeriodsFrom c rule t base (j + 1) n
weeks-more c rule t base days old week new j first_old first_new before here both n row = (
  λ has. ⊎_elim (λ w. (j, omega arith, (here n).0 w))
      (λ o. let p = (before n in_old).0 o in (p.0, omega (arith, p.1), p.2)) (parts.0 has),
  λ p. parts.1 (by_week p.0 p.1 p.2),
)
  where
    in_old : InRow old n
    in_old = (omega (arith, signed, row.0, first_new), omega (arith, signed, row.1, first_new))

    parts : IsTrue (has_day new n) ↔ (IsTrue (has_day week n) ⊎ IsTrue (has_day old n))
    parts = Decides-at (has_day new n) (has_day week n || has_day old n) (both n in_old.1)
        (Decides-or (has_day week n) (has_day old n) (λ x. x, λ x. x) (λ x. x, λ x. x))

    by_week : (k : ℕ) → k < j + 1 → IsKept c rule t (base + k) n → IsTrue (has_day week n) ⊎ IsTrue (has_day old n)
    by_week k low kept = ⊎_elim (λ less. inr ((before n in_old).1 (k, less, kept)))
        (λ more. inl ((here n).1 (last (omega (arith, low, more))))) (cases_lt k j)
      where
        last : k ≡ j → IsKept c rule t (base + j) n
        last same = subst (λ (i : ℕ). IsKept c rule t (base + i) n) same kept
