use Rattle.std.proofs.Common.{◌≡◌, ℕ, ◌↔◌, IsTrue, ℤ}
use Rattle.cal_types.specs.CalendarList.{CalendarList, Date}
use Rattle.cal_rrule.specs.Blocks.{IsOfPeriodsFrom}
use Rattle.cal_rrule.specs.Masks.{InRow}
use Rattle.cal_rrule.specs.Weekly.{ArePeriodWeeks}
use Rattle.recurrence_sets.specs.PeriodBits.{has_day}
use Rattle.cal_rrule.proofs.weekly.kept_in_weeks.Given as goal

abbrev pub invariant-loop-place : goal.invariant-loop-place
invariant-loop-place l = record {
  first : l.kept.first ≡ l.days.first;
  kept : (c : CalendarList) (t : Date) (base : ℕ) → ArePeriodWeeks c l.asked.rule t base l.days l.count →
      (n : ℤ) → InRow l.kept n → IsTrue (has_day l.kept n) ↔ IsOfPeriodsFrom c l.asked.rule t base l.place n;
}
