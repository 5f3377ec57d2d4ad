use Rattle.std.proofs.Common.{◌≡◌, ℕ, ◌*◌, ◌&&◌, ◌||◌, nat_le, nat_lt, length}
use Rattle.cal_rule.specs.Sets.{has_number}
use Rattle.recurrence_sets.proofs.day_bits.add_run.Given as goal

abbrev pub invariant-loop-place : goal.invariant-loop-place
invariant-loop-place l = record {
  numbers : (i : ℕ) → has_number l.words i
      ≡ (((nat_le l.from i && nat_lt i l.to) && nat_lt i (64 * l.place)) || has_number l.initial.words i);
  same_length : length l.words ≡ length l.initial.words;
}
