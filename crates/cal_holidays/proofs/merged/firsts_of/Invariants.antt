use Rattle.std.proofs.Common.{◌≡◌, length}
use Rattle.cal_holidays.specs.Kept.{AreFirsts}
use Rattle.cal_holidays.proofs.merged.firsts_of.Given as goal

abbrev pub invariant-loop-place : goal.invariant-loop-place
invariant-loop-place g l = record {
  size : length l.firsts ≡ 64;
  firsts : AreFirsts (g.R.NumberedRules.names l.rules) (g.R.NumberedRules.count_of l.rules) l.rest l.firsts l.place;
}
