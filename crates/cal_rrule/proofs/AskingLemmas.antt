-- A rule and its start.
use Rattle.std.proofs.Common.{◌≡◌, ◌∙◌, ◌↔◌, ◌&&◌, ◌||◌, IsTrue, Bool, ℤ, ℕ, pos, ◌+ℤ◌, ◌-ℤ◌, sym, ap, arith}
use mathlib.Core.Logic.{inl, inr, ⊎_elim}
use Rattle.std.proofs.lemmas.Bool.Decides.{Decides-and, Decides-or}
use Rattle.cal_days.specs.Day.{IsValidDay}
use Rattle.cal_days.proofs.Signed.{signed}
use Rattle.cal_types.specs.CalendarList.{CalendarList, Date, IsOn, date, day_number, month_at}
use Rattle.cal_types.specs.Month.{MonthParts}
use Rattle.cal_types.specs.MonthParts.{month_parts}
use Rattle.cal_rule.specs.Sets.{has_month}
use Rattle.cal_rule.specs.declared.frequency.Frequency.TheVariants.{Yearly}
use Rattle.cal_rule.specs.declared.rule.RecurrenceRule.{RecurrenceRule}
use Rattle.cal_rrule.specs.Asking.{IsAsked}
use Rattle.cal_rrule.specs.Looks.{AreMissing, CountsInYears, IsMonthLook, look_stretch}
use Rattle.cal_rrule.specs.Periods.{NoDays, SaysMonth}
use Rattle.cal_rrule.specs.Stretches.{InStretch}
use Rattle.cal_rrule.specs.declared.asked.Asked.{Asked}
use Rattle.cal_rrule.specs.declared.missing.Missing.{Missing}
use Rattle.cal_rrule.proofs.LookLemmas.{look-date}

-- a rule, and a day of a month that is looked at as its start
pub look-asked : (c : CalendarList) (t : Date) (asked : Asked) → AreMissing asked.rule asked.missing →
    IsMonthLook c asked.month → InStretch (look_stretch asked.month) asked.day → IsValidDay asked.day →
    IsOn c asked.day t → pos asked.day_of_month ≡ asked.day -ℤ asked.month.first +ℤ pos 1 → IsAsked c t asked
look-asked c t asked missing is within valid on day =
    let at = look-date c asked.month asked.day t is within on in
    record {
      are_missing = missing;
      is_valid = valid;
      is_date = on.date;
      on_day = sym on.day;
      on_day_of_month = omega (arith, signed, day, is.is_first, first at, on.day, on.date.day.0);
      is_look = is;
      is_within = within;
      in_year = sym at.0;
      in_place = sym at.1;
    }
  where
    first : (t.year ≡ asked.month.year) × (t.month ≡ asked.month.place) →
        day_number c (date asked.month.year asked.month.place 1) ≡ day_number c (date t.year t.month 1)
    first at = ap (λ (y : ℤ). day_number c (date y asked.month.place 1)) (sym at.0)
        ∙ ap (λ (i : ℕ). day_number c (date t.year i 1)) (sym at.1)

-- the start's month
pub asked-month : (c : CalendarList) (t : Date) (asked : Asked) → IsAsked c t asked →
    month_parts asked.month.month ≡ month_at c t.year t.month
asked-month c t asked is =
    is.is_look.is_month ∙ ap (λ (y : ℤ). month_at c y asked.month.place) is.in_year
    ∙ ap (λ (i : ℕ). month_at c t.year i) is.in_place

-- a month that a rule names in a year
pub says-month : (c : CalendarList) (t : Date) (asked : Asked) (m : MonthParts) (named days start : Bool) → IsAsked c t asked →
    named ≡ has_month asked.rule.months m → IsTrue days ↔ NoDays asked.rule →
    IsTrue start ↔ (m ≡ month_parts asked.month.month) →
    IsTrue (named || ((days && asked.missing.months) && start)) ↔ SaysMonth c asked.rule t m
says-month c t asked m named days start is has no_days same =
    let own = asked-month c t asked is in
    let inner = Decides-and (days && asked.missing.months) start
    (Decides-and days asked.missing.months no_days is.are_missing.no_months) same in
    let either = Decides-or named ((days && asked.missing.months) && start) (λ h. h, λ h. h) inner in (
      λ h. ⊎_elim (λ p. inl (sym has ∙ p)) (λ q. inr (q.0.0, q.0.1, q.1 ∙ own)) (either.0 h),
      λ h. either.1 (⊎_elim (λ p. inl (has ∙ p)) (λ q. inr ((q.0, q.1), q.2 ∙ sym own)) h),
    )

-- weekdays are counted in the year
pub counts-years : (rule : RecurrenceRule) (missing : Missing) (yearly : Bool) → AreMissing rule missing →
    IsTrue yearly ↔ (rule.frequency ≡ Yearly) → IsTrue (yearly && missing.months) ↔ CountsInYears rule
counts-years rule missing yearly are is = Decides-and yearly missing.months is are.no_months
