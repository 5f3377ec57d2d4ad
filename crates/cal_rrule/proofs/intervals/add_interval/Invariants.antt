use Rattle.std.proofs.Common.{◌≡◌, ◌+◌, ◌*◌, ℕ, pos, ◌+ℤ◌, ◌-ℤ◌}
use Rattle.cal_days.specs.Sums.{years_up}
use Rattle.cal_rrule.specs.Masks.{Adds, IsIntervalBelow}
use Rattle.cal_rrule.proofs.intervals.add_interval.Given as goal

abbrev pub invariant-loop-day : goal.invariant-loop-day
invariant-loop-day l =
    (count : ℕ) × (l.day ≡ l.fn.start +ℤ pos ((l.steps + count) * l.every))
    × Adds l.initial.days l.days (IsIntervalBelow l.fn.start l.every l.steps (l.steps + count) l.fn.to)

abbrev pub decreases-loop-day : goal.decreases-loop-day
decreases-loop-day l = years_up (l.end -ℤ l.day)
