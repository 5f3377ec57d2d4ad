use Rattle.std.proofs.Common.{◌≡◌, ℕ, ◌*◌, ◌&&◌, ◌||◌, nat_lt, length}
use Rattle.cal_rule.specs.Sets.{has_number}
use Rattle.recurrence_sets.proofs.day_sets.add_all.Given as goal

abbrev pub invariant-loop-place : goal.invariant-loop-place
invariant-loop-place l = record {
  numbers : (i : ℕ) → has_number l.words i
      ≡ ((nat_lt i (64 * l.place) && has_number l.others i) || has_number l.initial.words i);
  same_length : length l.words ≡ length l.initial.words;
}
