use Rattle.std.proofs.Common.{◌-◌, ◌≡◌, ◌<◌, ◌%◌, option_map}
use Rattle.cal_holidays.specs.Found.{pair_of, stretch_of}
use Rattle.cal_holidays.specs.Merging.{IsFirst}
use Rattle.cal_holidays.proofs.first.first_of_place.Given as goal

-- the rules of the place that were looked at
abbrev pub invariant-loop-rule : goal.invariant-loop-rule
invariant-loop-rule g l = record {
  place : l.rule % 64 ≡ l.place;
  first : IsFirst (g.R.NumberedRules.names l.rules) (g.R.NumberedRules.count_of l.rules) (λ r. (r % 64 ≡ l.place) × (r < l.rule)) (stretch_of l.rest) (option_map pair_of l.best);
}

abbrev pub decreases-loop-rule : goal.decreases-loop-rule
decreases-loop-rule g l = l.count - l.rule
