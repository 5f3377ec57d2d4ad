use Rattle.std.proofs.Common.{◌≡◌, ℕ, ◌*◌, ◌<◌, ◌≤◌, false}
use Rattle.cal_rule.specs.Sets.{has_number}
use Rattle.recurrence_sets.proofs.day_bits.first_number.Given as goal

-- no number is in the words that were looked at
abbrev pub invariant-loop-place : goal.invariant-loop-place
invariant-loop-place l = (i : ℕ) → l.from ≤ i → i < 64 * l.place → has_number l.words i ≡ false
