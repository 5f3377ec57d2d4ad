use Rattle.std.proofs.Common.{◌≡◌, pos}
use Rattle.recurrence_set_tests.proofs.tests.set_of.Given as goal

-- the set begins on day 1000
abbrev pub invariant-loop-offset : goal.invariant-loop-offset
invariant-loop-offset l = l.days.first ≡ pos 1000
