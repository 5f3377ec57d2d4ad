use Rattle.std.proofs.Common.{◌^◌, ◌≤◌, arith}
use Rattle.std.proofs.Math.Nat.{pow-le-pow_right}
use Rattle.word_values.proofs.numbers.leading_digits.Goals as goal

pub overflow_mul-value : goal.overflow_mul-value
overflow_mul-value c =
    let h : c.loop-byte.byte-index ≤ 8 = omega arith in
    let p : 10 ^ c.loop-byte.byte-index ≤ 10 ^ 8 = pow-le-pow_right (omega arith) h in omega arith

pub overflow_add-value : goal.overflow_add-value
overflow_add-value c =
    let h : c.loop-byte.byte-index ≤ 8 = omega arith in
    let p : 10 ^ c.loop-byte.byte-index ≤ 10 ^ 8 = pow-le-pow_right (omega arith) h in omega arith
