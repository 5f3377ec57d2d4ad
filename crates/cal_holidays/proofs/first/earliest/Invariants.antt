use Rattle.cal_holidays.specs.Found.{IsEarliest}
use Rattle.cal_holidays.proofs.first.earliest.Given as goal

abbrev pub invariant-loop-first : goal.invariant-loop-first
invariant-loop-first l = IsEarliest l.all l.first-index l.best
