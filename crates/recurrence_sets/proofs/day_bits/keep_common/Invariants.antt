use Rattle.std.proofs.Common.{◌≡◌, ℕ, ◌*◌, ◌&&◌, ◌||◌, nat_le, length}
use Rattle.cal_rule.specs.Sets.{has_number}
use Rattle.recurrence_sets.proofs.day_bits.keep_common.Given as goal

abbrev pub invariant-loop-place : goal.invariant-loop-place
invariant-loop-place l = record {
  numbers : (i : ℕ) → has_number l.words i
      ≡ (has_number l.initial.words i && (nat_le (64 * l.place) i || has_number l.others i));
  same_length : length l.words ≡ length l.initial.words;
}
