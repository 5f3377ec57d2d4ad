use Rattle.std.proofs.Common.{◌≡◌, ◌*◌, ◌≤◌, min}
use Rattle.cal_rule.specs.Sets.{has_number}
use Rattle.recurrence_sets.specs.Numbers.{count_below}
use Rattle.recurrence_sets.proofs.day_bits.numbers_below.Given as goal

-- the numbers in the words that were looked at
abbrev pub invariant-loop-place : goal.invariant-loop-place
invariant-loop-place l = record {
  counted : l.count ≡ count_below (has_number l.words) (min l.to (64 * l.place));
  few : l.count ≤ 64 * l.place;
}
