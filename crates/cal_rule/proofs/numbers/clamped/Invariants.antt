use Rattle.std.proofs.Common.{◌≡◌, ◌≤◌, take, min}
use Rattle.word_values.specs.Numbers.{digits_value}
use Rattle.cal_rule.proofs.numbers.clamped.Given as goal

abbrev pub invariant-loop-byte : goal.invariant-loop-byte
invariant-loop-byte l = record {
  value : l.value ≡ min (digits_value (take l.byte-index l.digits)) 1000000000;
  small : l.value ≤ 1000000000;
}
