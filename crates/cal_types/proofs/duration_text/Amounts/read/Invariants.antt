use Rattle.std.proofs.Common.{length}
use Rattle.cal_types.specs.DurationText.{parts_of}
use Rattle.cal_types.proofs.DurationLemmas.{IsReading}
use Rattle.cal_types.proofs.duration_text.Amounts.read.Given as goal

abbrev pub invariant-loop-rest : goal.invariant-loop-rest
invariant-loop-rest l = IsReading l.amounts (parts_of l.text) (parts_of l.rest)

abbrev pub decreases-loop-rest : goal.decreases-loop-rest
decreases-loop-rest l = length l.rest
