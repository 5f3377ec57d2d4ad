use Rattle.std.proofs.Common.{arith}
use Rattle.cal_days.proofs.Signed.{signed}
use Rattle.recurrence_set_tests.proofs.tests.set_of.Goals as goal

pub insert_run-requires-clause-first : goal.insert_run-requires-clause-first
insert_run-requires-clause-first c =
    omega (arith, signed, c.loop-offset.invariant, c.new.ensures, c.if-offset-ge0.true, c.if-offset-lt448.true)

pub insert_run-requires-clause-last : goal.insert_run-requires-clause-last
insert_run-requires-clause-last c =
    omega (arith, signed, c.loop-offset.invariant, c.new-then-offset-lt448.ensures, c.if-offset-ge0.true, c.if-offset-lt448.true)
