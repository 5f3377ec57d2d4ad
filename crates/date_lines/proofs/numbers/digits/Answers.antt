use Rattle.std.proofs.Common.{subst, take, arith}
use Rattle.word_values.specs.Numbers.{AreLeadingDigits}
use Rattle.date_lines.proofs.DigitLemmas.{digits_taken}
use Rattle.date_lines.proofs.numbers.digits.Goals as goal

pub returns-clause-value : goal.returns-clause-value
returns-clause-value c =
    let count = c.leading_digits-count.result.0 in
    let value = c.leading_digits-count.result.1 in
    digits_taken c.args.most c.args.text.now count value (subst (λ t. AreLeadingDigits t count value) c.first_bytes.ensures c.leading_digits-count.ensures.digits) (omega (arith, c.if-count-eq0.false))
