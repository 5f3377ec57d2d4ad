use Rattle.std.proofs.Common.{◌≡◌, ◌+ℤ◌, ◌-ℤ◌, pos, ℕ}
use Rattle.cal_days.specs.Sums.{years_up}
use Rattle.cal_holidays.specs.Moving.{IsLeast, step_year}
use Rattle.cal_holidays.specs.NamedDays.{OwnDay}
use Rattle.cal_holidays.specs.Rules.{rule_said}
use Rattle.cal_holidays.proofs.MovingLemmas.{Before}
use Rattle.cal_holidays.proofs.first_observed.first_in_years.Given as goal

-- the day that was found is the first one to which the own days of the years before this one move
abbrev pub invariant-loop-year : goal.invariant-loop-year
invariant-loop-year g l =
    let own = OwnDay (g.C.Calendar.system l.calendar).list (rule_said l.observance.rule) in
    (j : ℕ) × (l.year ≡ step_year l.steps j) × IsLeast (Before own l.observance.moves.days l.steps j) l.first l.last l.best

abbrev pub decreases-loop-year : goal.decreases-loop-year
decreases-loop-year g l = years_up (l.steps.last +ℤ pos 1 -ℤ l.year)
