-- The days that YEARLY keeps where BYWEEKNO isn't there.
use Rattle.std.proofs.Common.{◌≡◌, ◌∙◌, ℕ, ◌+◌, ◌*◌, ◌≤◌, ◌<◌, ◌↔◌, int_lt, IsTrue, ℤ, pos, ◌+ℤ◌, ◌-ℤ◌, ◌≤ℤ◌, ◌<ℤ◌, sym, ap, subst, arith}
use Rattle.std.proofs.Math.Nat.{mul-le-mul_right}
use Rattle.cal_days.specs.Day.{IsFieldYear, IsValidDay}
use Rattle.cal_days.proofs.Signed.{by_bool, signed}
use Rattle.cal_types.specs.CalendarList.{CalendarList, Date, IsLawful, IsOn, IsValidDate, start_of_year}
use Rattle.cal_types.proofs.ListLemmas.{date-in_year, on-finds, on-unique, start_of_year-later, year_length-some}
use Rattle.cal_rule.specs.declared.frequency.Frequency.{Frequency}
use Rattle.cal_rule.specs.declared.frequency.Frequency.TheVariants.{Yearly}
use Rattle.cal_rule.specs.declared.rule.RecurrenceRule.{RecurrenceRule}
use Rattle.cal_rrule.specs.Looks.{AreMissing, IsYearLook, look_year}
use Rattle.cal_rrule.specs.Masks.{InRow}
use Rattle.cal_rrule.specs.Occurrences.{IsKept}
use Rattle.cal_rrule.specs.PeriodSets.{IsPeriodSet}
use Rattle.cal_rrule.specs.Periods.{IsNamedInYear, IsOfPeriod, IsOfPeriods, NoWeeks}
use Rattle.cal_rrule.specs.Stretches.{InStretch}
use Rattle.cal_rrule.specs.declared.missing.Missing.{Missing}
use Rattle.cal_rrule.specs.declared.year_look.YearLook.{YearLook}
use Rattle.cal_rrule.proofs.YearDayLemmas.{named-reaches, named-within, reach-apart}
use Rattle.cal_rrule.proofs.YearLookLemmas.{year-on}
use Rattle.cal_rrule.proofs.YearStepLemmas.{starts-order}
use Rattle.recurrence_sets.specs.PeriodBits.{has_day}
use Rattle.recurrence_sets.specs.declared.period_days.PeriodDays.{PeriodDays}

-- the year of a date by its day
pub asked-year : (c : CalendarList) (year : YearLook) (day : ℤ) (t : Date) → IsYearLook c year → InStretch (look_year year) day →
    IsOn c day t → t.year ≡ year.year
asked-year c year day t is within on =
    let own = year-on c year day is within in
    ap (λ (u : Date). u.year) (on-unique c day t own.0 on own.1) ∙ own.2

module _ (c : CalendarList) (rule : RecurrenceRule) (t : Date) (yearly : rule.frequency ≡ Yearly) (weeks : NoWeeks rule) where
  -- the days of a period are those that its year names
  pub of-year : (k : ℕ) (n : ℤ) → IsNamedInYear c rule t (t.year +ℤ pos (k * rule.interval)) n ↔ IsOfPeriod c rule t k n
  of-year k n = (
    λ named. subst (λ (f : Frequency). IsOfPeriods f c rule t (k * rule.interval) n) (sym yearly)
        (λ there. absurd (there weeks), λ _. named),
    λ h. let own : IsOfPeriods Yearly c rule t (k * rule.interval) n =
        subst (λ (f : Frequency). IsOfPeriods f c rule t (k * rule.interval) n) yearly h in
        own.1 weeks,
  )

  module _ (law : IsLawful c) (missing : Missing) (are : AreMissing rule missing) where
    -- no later period has a day up to a last one
    pub yearly-ended : (year : YearLook) (period years : ℕ) (last : ℤ) → t.year ≡ year.year → years ≡ period * rule.interval →
        (last +ℤ pos 1) <ℤ start_of_year c (year.year +ℤ pos years) →
        (j : ℕ) → period ≤ j → (n : ℤ) → IsValidDay n → n ≤ℤ last → IsKept c rule t j n → ⊥
    yearly-ended year period years last own is behind j order n valid before kept =
        let named = (of-year j n).1 kept.0 in
        let reach = named-within c law rule missing are t (t.year +ℤ pos (j * rule.interval)) n named in
        let product : period * rule.interval ≤ j * rule.interval = mul-le-mul_right rule.interval order in
        let starts = starts-order c (year.year +ℤ pos years) (t.year +ℤ pos (j * rule.interval))
        (omega (arith, signed, own, is, product)) in
        omega (arith, signed, reach.0, starts, behind, before)

    -- the days of a period are those of its year
    pub yearly-set : (period years : ℕ) (found : ℤ) (days : PeriodDays) → found ≡ t.year +ℤ pos years →
        years ≡ period * rule.interval →
        ((n : ℤ) → InRow days n → IsTrue (has_day days n) ↔ IsNamedInYear c rule t found n) →
        ((n : ℤ) → IsNamedInYear c rule t found n → InRow days n) →
        ((n : ℤ) → IsTrue (has_day days n) → InRow days n) → IsPeriodSet c rule t period days
    yearly-set period years found days at is exact within row =
        let year : found ≡ t.year +ℤ pos (period * rule.interval) = at ∙ ap (λ (k : ℕ). t.year +ℤ pos k) is in
        record {
          row = row;
          exact = λ n in_row.
              let here = subst (λ (y : ℤ). IsTrue (has_day days n) ↔ IsNamedInYear c rule t y n) year (exact n in_row) in
              (λ h. (of-year period n).0 (here.0 h), λ p. here.1 ((of-year period n).1 p));
          within = λ n p. within n (subst (λ (y : ℤ). IsNamedInYear c rule t y n) (sym year) ((of-year period n).1 p));
        }

    -- periods that aren't next to each other have their days in order
    pub yearly-apart : 0 < rule.interval → (i j : ℕ) (m n : ℤ) → i + 2 ≤ j → IsKept c rule t i m → IsKept c rule t j n → m <ℤ n
    yearly-apart every i j m n order one two =
        let product : (i + 2) * rule.interval ≤ j * rule.interval = mul-le-mul_right rule.interval order in
        reach-apart rule.skip c law (t.year +ℤ pos (i * rule.interval)) (t.year +ℤ pos (j * rule.interval)) m n
        (omega (arith, signed, product, every))
        (named-reaches c law rule missing are t (t.year +ℤ pos (i * rule.interval)) m ((of-year i m).1 one.0))
        (named-reaches c law rule missing are t (t.year +ℤ pos (j * rule.interval)) n ((of-year j n).1 two.0))

-- a year that begins up to a day behind the valid days can be named by fields, but for the one behind them
pub year-most : (c : CalendarList) → IsLawful c → ((u : Date) → IsValidDate c u → IsFieldYear u.year) → (z : ℤ) →
    start_of_year c z ≤ℤ pos 365242135 → z ≤ℤ pos 1040001
year-most c law ranged z low =
    let found = on-finds c law (pos 365242134) in
    let u = found.0 in
    let on = found.1 in
    let field = ranged u (record { date = on.date; valid = (omega (arith, signed, on.day), omega (arith, signed, on.day)) }) in
    by_bool (int_lt (pos 1040001) z)
    (λ e. absurd (beyond u on field (omega (arith, signed, e))))
    (λ e. omega (arith, signed, e))
  where
    beyond : (u : Date) → IsOn c (pos 365242134) u → IsFieldYear u.year → pos 1040001 <ℤ z → ⊥
    beyond u on field more =
        let one = start_of_year-later c u.year (z -ℤ pos 1) (omega (arith, signed, field.1, more)) in
        let two = start_of_year-later c (z -ℤ pos 1) z (omega (arith, signed)) in
        let some = year_length-some c law (z -ℤ pos 1) in
        let within = date-in_year c u on.date in
        omega (arith, signed, one, two, some, within, on.day, on.date.day.0, low)

-- so periods with such years are few
pub few-periods : (period every years : ℕ) (least found : ℤ) → 0 < every → years ≡ period * every → found ≡ least +ℤ pos years →
    IsFieldYear least → found ≤ℤ pos 1040001 → period < 4294967295
few-periods period every years least found some is at field most =
    let product : period * 1 ≤ period * every = grind (arith, some) in
    let all : years ≤ 2080001 = omega (arith, signed, at, field.0, most) in
    omega (arith, product, is, all)
