use Rattle.std.proofs.Common.{◌≡◌, ◌≤◌, ◌∙◌, false, nat_lt, sym, arith}
use Rattle.std.proofs.lemmas.Bool.Decides.{nat_tests}
use Rattle.cal_rule.proofs.BitLemmas.{no-bit}
use Rattle.cal_rule.proofs.bits.bit_of.Goals as goal

pub returns-else-bit-lt64 : goal.returns-else-bit-lt64
returns-else-bit-lt64 c =
    let high : 64 ≤ c.args.bit = omega arith in
    let past : nat_lt c.args.bit 64 ≡ false = grind (arith, nat_tests) in
    past ∙ sym (no-bit c.args.word c.args.bit c.ranges.word.fits high)
