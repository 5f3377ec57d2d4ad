use Rattle.std.proofs.Common.{◌<◌, ◌^◌, sym, arith}
use Rattle.cal_rule.proofs.NumberLemmas.{number-small}
use Rattle.cal_rule.proofs.numbers.read_two_digits.Goals as goal

pub overflow_cast-result : goal.overflow_cast-result
overflow_cast-result c =
    let small : c.in_ok-number.number < 10 ^ 2 = number-small 2 c.args.word.now _ (sym c.in_ok-number.ensures.value) in
    omega (arith, small)

pub returns-clause-small : goal.returns-clause-small
returns-clause-small c =
    let small : c.in_ok-number.number < 10 ^ 2 = number-small 2 c.args.word.now _ (sym c.in_ok-number.ensures.value) in
    omega (arith, small)
