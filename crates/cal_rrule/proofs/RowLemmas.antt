-- Sets whose days are all among some days.
use Rattle.std.proofs.Common.{◌↔◌, IsTrue, ℤ, pos, ◌+ℤ◌, ◌≤ℤ◌, ◌<ℤ◌}
use Rattle.cal_rrule.specs.Masks.{Marks}
use Rattle.recurrence_sets.specs.PeriodBits.{has_day}
use Rattle.recurrence_sets.specs.declared.period_days.PeriodDays.{PeriodDays}

-- a set that has the days of a kind among its 448, where all of its days and all days of the kind are among them
pub marks-all : (days : PeriodDays) (from : ℤ) (Is : ℤ → Type 0) → Marks days from (from +ℤ pos 448) Is →
    ((n : ℤ) → IsTrue (has_day days n) → (from ≤ℤ n) × (n <ℤ (from +ℤ pos 448))) →
    ((n : ℤ) → Is n → (from ≤ℤ n) × (n <ℤ (from +ℤ pos 448))) →
    (n : ℤ) → IsTrue (has_day days n) ↔ Is n
marks-all days from Is marks row within n = (
  λ has. let in_row = row n has in (marks.days n in_row.0 in_row.1).0 has,
  λ is. let in_row = within n is in (marks.days n in_row.0 in_row.1).1 is,
)
